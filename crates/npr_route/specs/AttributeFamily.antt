-- The family of the attributes of a route message, with next hops among them.
use Rattle.npr_base.specs.Family.{Writing, Reading}
use Rattle.npr_route.specs.Attribute.{Meaning, Reads, Wrong, Coherent, shape_of, members}
use Rattle.npr_route.specs.lemmas.Attribute.{reads-one, reads-sound, reads-coherent, kinds, reads-back, reads-grow}
use Rattle.npr_route.specs.AttributeSeeing.{attributes-seeing}
use Rattle.npr_route.specs.FlatAttribute.{Context}
use Rattle.npr_route.specs.lemmas.LookBounds.{attributes-bounded, attributes-saw}
use Rattle.npr_base.specs.Framing.{Item}
use Rattle.npr_base.specs.Looks.{Looking}
use Rattle.npr_route.specs.AttributeLooks.{AttributeTakes}
use Rattle.npr_route.specs.lemmas.AttributeLooks.{attribute-looks-one, attribute-looks-add}

-- the looks of an attribute under a context
abbrev pub attribute_looking : Context → Looking Item
attribute_looking c = record {
  Takes = AttributeTakes c;
  one = λ x old new other p q. (attribute-looks-one c x p.0 q.0 old new other p.1 q.1).1;
  adds = λ x old new p.
      let a = attribute-looks-add c x p.0 old new p.1 in
      record { number = a.number; is = a.is; alike = λ d. (p.0, a.alike d) };
}

-- how each is written
abbrev pub writing : Writing Meaning
writing = record { shape = shape_of; members = members }

-- the family of attributes with next hops
abbrev pub attributes : Context → Reading writing
attributes c = record {
  Reads = Reads c;
  Faulty = Wrong c;
  looks = attribute_looking c;
  Coherent = Coherent c;
  one_reading = reads-one c;
  no_fault = reads-sound c;
  reads_coherent = reads-coherent c;
  kinds = kinds c;
  reads_back = reads-back c;
  grows = reads-grow c;
  bounded = attributes-bounded c;
  saw = attributes-saw c;
  seeing = attributes-seeing c;
}
