-- Requests (linux/netlink.h, NLM_F_*): a message of a protocol under flags, from a socket that the kernel knows.
--     dump       REQUEST, ROOT and MATCH
--     get        REQUEST
--     new        REQUEST, ACK, EXCL and CREATE
--     replace    REQUEST, ACK, REPLACE and CREATE
--     delete     REQUEST and ACK
use Rattle.std.specs.Prelude.{◌≡◌, ℕ, ◌+◌, List, length}
use Rattle.netlink_packet_core.specs.Message.{View, framed, message_bytes}
use Rattle.netlink_packet_core.specs.Payload.{inner}
use Rattle.netlink_packet_core.specs.Protocol.{Protocol}

-- the message of a request; whatever length stands here, that of the payload is written
abbrev pub requested : {M : Type 0} → Protocol M → ℕ → ℕ → M → View M
requested P flags sequence_number m = record {
  header = record { length = 0; message_type = P.number m; flags = flags; sequence_number = sequence_number; port_number = 0 };
  payload = inner m;
}

-- the bytes of a request: its header, and the message behind it
abbrev pub request_bytes : {M : Type 0} → Protocol M → ℕ → ℕ → M → List ℕ
request_bytes P flags sequence_number m =
    framed (record {
      header = record { length = 16 + length (P.encode m); message_type = P.number m; flags = flags; sequence_number = sequence_number; port_number = 0 };
      payload = P.encode m;
    })

-- the message is that request, and is written as its bytes
pub record IsRequest {M : Type 0} (P : Protocol M) (flags sequence_number : ℕ) (m : M) (request : View M) : Type 0 where
  pub message : request ≡ requested P flags sequence_number m
  pub bytes : message_bytes P request ≡ request_bytes P flags sequence_number m

abbrev pub dump_flags : ℕ
dump_flags = 0x001 + 0x100 + 0x200

abbrev pub get_flags : ℕ
get_flags = 0x001

abbrev pub new_flags : ℕ
new_flags = 0x001 + 0x004 + 0x200 + 0x400

abbrev pub replace_flags : ℕ
replace_flags = 0x001 + 0x004 + 0x100 + 0x400

abbrev pub delete_flags : ℕ
delete_flags = 0x001 + 0x004
