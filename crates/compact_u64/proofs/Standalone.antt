-- The laws of standalone numbers: they are a lawful format, so all of demand 3 holds of them.
use Rattle.codec.proofs.Prelude.{refl, [], ◌∷◌, Bool, true, false, ℕ, ◌≤◌, arith, length}
use Rattle.codec.specs.Answers.{AllBytes}
use Rattle.codec.specs.Reader.{one_byte}
use Rattle.codec.specs.Reads.{Reads, ReadsBack, Relaxes, Bounded}
use Rattle.codec.proofs.Relations.{OneByte}
use Rattle.codec.specs.Lawful.{Lawful}
use Rattle.codec.specs.Demand3.{Demand3}
use Rattle.codec.proofs.Readers.{reads_as, then_reads, one_byte_reads}
use Rattle.codec.proofs.Relaxes.{relaxes_back, relaxes_self, then_relaxes}
use Rattle.codec.proofs.Bounded.{then_bounded, one_byte_bounded}
use Rattle.codec.proofs.Bytes.{AllBytes-cons}
use Rattle.codec.proofs.Lawful.{lawful_of}
use Rattle.codec.proofs.Demand3.{demand3}
use Rattle.compact_u64.specs.Number.{min_tag, number_bytes, read_number, standalone_bytes, read_standalone, U64, standalone}
use Rattle.compact_u64.specs.Laws.{NumberAs}
use Rattle.compact_u64.proofs.Relations.{StandaloneAs}
use Rattle.compact_u64.proofs.Tags.{min_tag_fits, AllBytes-number_bytes, number_bytes_short}
use Rattle.compact_u64.proofs.Number.{number_reads, number_relaxes, number_bounded}

pub standalone_reads : Reads (read_standalone true) StandaloneAs
standalone_reads = reads_as (read_standalone true) _ StandaloneAs
    (then_reads one_byte OneByte (read_number true 8) (λ tag. NumberAs 8 tag) one_byte_reads (λ tag e x. number_reads 8 tag (omega arith) (omega arith)))
    (λ v e j. record { small = j.second.small; bytes = cc })
    (λ v e n. record {
      value = min_tag 8 v;
      front = min_tag 8 v ∷ [];
      rear = number_bytes 8 v;
      whole = n.bytes;
      first = (min_tag_fits 8 v (omega arith), refl);
      second = record { small = n.small; tagged = refl; bytes = refl };
    })

pub standalone_relaxes : Relaxes (read_standalone true) (read_standalone false)
standalone_relaxes = then_relaxes one_byte one_byte _ _ (relaxes_self one_byte) (λ tag. number_relaxes 8 tag)

pub standalone_back : (canonic : Bool) → ReadsBack (read_standalone canonic) StandaloneAs
standalone_back true = standalone_reads.back
standalone_back false = relaxes_back _ _ _ standalone_relaxes standalone_reads.back

pub standalone_bounded : (canonic : Bool) → Bounded (read_standalone canonic)
standalone_bounded canonic = then_bounded one_byte _ one_byte_bounded (λ tag. number_bounded 8 tag canonic)

-- one byte at least, nine at most
pub standalone_short : (v : ℕ) → (1 ≤ length (standalone_bytes v)) × (length (standalone_bytes v) ≤ 9)
standalone_short v = (omega arith, omega (arith, number_bytes_short 8 v))

pub AllBytes-standalone : (v : ℕ) → AllBytes (standalone_bytes v)
AllBytes-standalone v = AllBytes-cons (min_tag 8 v) (number_bytes 8 v) (min_tag_fits 8 v (omega arith)) (AllBytes-number_bytes 8 v)

pub standalone_lawful : Lawful U64 standalone (read_standalone true)
standalone_lawful = lawful_of U64 standalone (read_standalone true)
    (reads_as _ _ _ standalone_reads
    (λ v e n. record { valid = record { typed = n.small; allows = refl }; bytes = n.bytes })
    (λ v e n. record { small = n.valid.typed; bytes = n.bytes }))
    refl

pub standalone_demand3 : Demand3 U64 standalone (read_standalone true)
standalone_demand3 = demand3 U64 standalone (read_standalone true) standalone_lawful
