-- All of specs/Demand3.antt follows from the four laws.
use Rattle.codec.proofs.Prelude.{drop}
use Rattle.codec.specs.Format.{Format}
use Rattle.codec.specs.Reader.{Reader}
use Rattle.codec.specs.Lawful.{Lawful}
use Rattle.codec.specs.Demand3.{Demand3}
use Rattle.codec.proofs.Bytes.{AllBytes-drop}
use Rattle.codec.proofs.Lawful.{exactly, one_value, same_whatever_follows}
use Rattle.codec.proofs.Writings.{writings_made, same_bytes_same_values}

pub demand3 : {A : Type 0} (Typed : A → Type 0) (f : Format A) (strict : Reader A) → Lawful Typed f strict → Demand3 Typed f strict
demand3 Typed f strict L = record {
  accepts = λ s at v n h. exactly Typed f strict L (drop at s) v n (AllBytes-drop at s h);
  unique = one_value Typed f strict L;
  follows = same_whatever_follows Typed f strict L;
  short = L.cut;
  lists = writings_made f Typed strict L;
  distinct = same_bytes_same_values f Typed strict L;
}
