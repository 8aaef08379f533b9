-- Values of attributes as one sees them in the bytes, by how a row says that they are read.
--     Shown, shown       what a value is, without where it lies in memory
--     Shows, Misshown    what bytes show that are read so, and why they show nothing
--     IsWhole            the value is read, and not left to a reader of its own
use Rattle.std.specs.Prelude.{◌≡◌, ◌≢◌, ◌<◌, ◌≤◌, ℕ, ℤ, Bool, nat_lt, List, length, slice_index, take}
use Rattle.std.specs.Int.{w16, w32, w64, from_le_bytes, from_be_bytes, cast_signed}
use Rattle.npr_base.specs.declared.ip.IpAddr.{IpAddr}
use Rattle.npr_base.specs.declared.ip.IpAddr.TheVariants.{V4, V6}
use Rattle.npr_base.specs.declared.attribute_set.At.{At}
use Rattle.npr_base.specs.declared.refusal.DecodeError.{DecodeError}
use Rattle.npr_base.specs.declared.refusal.DecodeError.TheVariants.{ValueLength, HeaderTooShort, NotUtf8}
use Rattle.npr_base.specs.declared.value.Form.{Form}
use Rattle.npr_base.specs.declared.value.Form.TheVariants.{Byte, Boolean, Signed32, Signed64, Little16, Little32, Little64, Big16, Big32}
use Rattle.npr_base.specs.declared.value.Form.TheVariants.{Big64, Uint, Flag, Octets4, Octets16, Ip, Name, Raw, Exactly, Leading}
use Rattle.npr_base.specs.declared.value.Form.TheVariants.{List as Listed, Inside, Dropped}
use Rattle.npr_base.specs.declared.value.Value.{Value}
use Rattle.npr_base.specs.declared.value.Value.TheVariants as Of
use Rattle.npr_base.specs.Ip.{IsIp}
use Rattle.npr_base.specs.NameText.{IsName, IsNoName}
use Rattle.npr_base.specs.Widths.{IsUint, IsNoUint, IsFlag, IsNoFlag}

-- what a value is
pub data Shown : Type 0 where
  -- a number of so many bytes, and a signed one
  is_number : ℕ → ℕ → Shown
  is_signed : ℕ → ℤ → Shown
  is_truth : Bool → Shown
  is_address : IpAddr → Shown
  is_name : List ℕ → Shown
  are_bytes : List ℕ → Shown
  is_structure : List ℕ → Shown
  -- the bytes of a list, or of what else has a reader of its own
  is_inside : List ℕ → Shown
  is_nothing : Shown

abbrev pub shown : Value → Shown
shown (Of.U8 n) = is_number 1 n
shown (Of.U16 n) = is_number 2 n
shown (Of.U32 n) = is_number 4 n
shown (Of.U64 n) = is_number 8 n
shown (Of.I32 z) = is_signed 4 z
shown (Of.I64 z) = is_signed 8 z
shown (Of.Bool b) = is_truth b
shown (Of.Address a) = is_address a
shown (Of.Name text) = is_name text.now
shown (Of.Bytes b) = are_bytes b.now
shown (Of.Structure b) = is_structure b.now
shown (Of.Inside b) = is_inside b.now
shown Of.Nothing = is_nothing

-- a value of so many bytes
abbrev pub Sized : ℕ → (List ℕ → Shown) → List ℕ → Shown → Type 0
Sized size show b s = (length b ≡ size) × (s ≡ show b)

-- what the bytes show
abbrev pub Shows : Form → List ℕ → Shown → Type 0
Shows Byte b s = Sized 1 (λ c. is_number 1 (slice_index c 0)) b s
Shows Boolean b s = Sized 1 (λ c. is_truth (nat_lt 0 (slice_index c 0))) b s
Shows Signed32 b s = Sized 4 (λ c. is_signed 4 (cast_signed w32 (from_le_bytes w32 c))) b s
Shows Signed64 b s = Sized 8 (λ c. is_signed 8 (cast_signed w64 (from_le_bytes w64 c))) b s
Shows Little16 b s = Sized 2 (λ c. is_number 2 (from_le_bytes w16 c)) b s
Shows Little32 b s = Sized 4 (λ c. is_number 4 (from_le_bytes w32 c)) b s
Shows Little64 b s = Sized 8 (λ c. is_number 8 (from_le_bytes w64 c)) b s
Shows Big16 b s = Sized 2 (λ c. is_number 2 (from_be_bytes w16 c)) b s
Shows Big32 b s = Sized 4 (λ c. is_number 4 (from_be_bytes w32 c)) b s
Shows Big64 b s = Sized 8 (λ c. is_number 8 (from_be_bytes w64 c)) b s
Shows Uint b s = (n : ℕ) × IsUint b n × (s ≡ is_number 8 n)
Shows Flag b s = (t : Bool) × IsFlag b t × (s ≡ is_truth t)
Shows Octets4 b s = Sized 4 (λ c. is_address (V4 c)) b s
Shows Octets16 b s = Sized 16 (λ c. is_address (V6 c)) b s
Shows Ip b s = (a : IpAddr) × IsIp b a × (s ≡ is_address a)
Shows Name b s = (text : List ℕ) × IsName b text × (s ≡ is_name text)
Shows Raw b s = s ≡ are_bytes b
Shows (Exactly size) b s = Sized size is_structure b s
Shows (Leading size) b s = (size ≤ length b) × (s ≡ is_structure (take size b))
Shows (Listed set front) b s = s ≡ is_inside b
Shows Inside b s = s ≡ is_inside b
Shows Dropped b s = s ≡ is_nothing

-- another length
abbrev pub Missized : ℕ → At → List ℕ → DecodeError → Type 0
Missized size at b e = (length b ≢ size) × (e ≡ ValueLength at (length b))

-- why they show nothing
abbrev pub Misshown : Form → At → List ℕ → DecodeError → Type 0
Misshown Byte at b e = Missized 1 at b e
Misshown Boolean at b e = Missized 1 at b e
Misshown Signed32 at b e = Missized 4 at b e
Misshown Signed64 at b e = Missized 8 at b e
Misshown Little16 at b e = Missized 2 at b e
Misshown Little32 at b e = Missized 4 at b e
Misshown Little64 at b e = Missized 8 at b e
Misshown Big16 at b e = Missized 2 at b e
Misshown Big32 at b e = Missized 4 at b e
Misshown Big64 at b e = Missized 8 at b e
Misshown Uint at b e = IsNoUint b × (e ≡ ValueLength at (length b))
Misshown Flag at b e = IsNoFlag b × (e ≡ ValueLength at (length b))
Misshown Octets4 at b e = Missized 4 at b e
Misshown Octets16 at b e = Missized 16 at b e
Misshown Ip at b e = (length b ≢ 4) × (length b ≢ 16) × (e ≡ ValueLength at (length b))
Misshown Name at b e = IsNoName b × (e ≡ NotUtf8 at)
Misshown Raw at b e = ⊥
Misshown (Exactly size) at b e = Missized size at b e
Misshown (Leading size) at b e = (length b < size) × (e ≡ HeaderTooShort (length b) size)
Misshown (Listed set front) at b e = ⊥
Misshown Inside at b e = ⊥
Misshown Dropped at b e = ⊥

-- the value is read
abbrev pub IsWhole : Form → Type 0
IsWhole (Listed set front) = ⊥
IsWhole Inside = ⊥
IsWhole form = Unit {0}
