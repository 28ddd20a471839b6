-- The laws of the time and the payload length.
use Rattle.codec.proofs.Prelude.{◌≡◌, refl, Bool, true, false, ℕ, arith, ltb, ltb-true, ltb-false}
use Rattle.codec.specs.Reader.{mapped}
use Rattle.codec.specs.Reads.{ReadsAs, Bounded}
use Rattle.codec.proofs.ReadsAs.{one_of, then_as, mapped_as}
use Rattle.codec.proofs.Bounded.{then_bounded, mapped_bounded}
use Rattle.compact_u64.specs.Number.{min_tag, number_bytes, read_number, U64}
use Rattle.compact_u64.proofs.Number.{number_back, number_bounded}
use Rattle.grouping.specs.declared.RangeEnd.TheVariants.{Closed}
use Rattle.time_distance.specs.Distance.{distance, read_from}
use Rattle.time_distance.proofs.Distance.{from_bounded, later_as, earlier_as}
use Rattle.entry_numbers.specs.declared.EntryHeader.{EntryHeader}
use Rattle.entry_numbers.specs.Header.{time_tag_width, length_tag_width}
use Rattle.entry_numbers.specs.Numbers.{header_of, numbers_bytes, numbers_from, read_numbers}

-- ---- what was written is read back
module _ (r time size : ℕ) (known : U64 r) (typed : U64 time) (small : U64 size) where
  size_as : ReadsAs (read_number false length_tag_width (min_tag length_tag_width size)) size (number_bytes length_tag_width size)
  size_as = one_of (number_back length_tag_width (min_tag length_tag_width size) (omega arith) (omega arith) false) (record { small = small; tagged = refl; bytes = refl })

  time_as : ReadsAs (read_from time_tag_width (Closed r) (ltb r time) (min_tag time_tag_width (distance time r))) time (number_bytes time_tag_width (distance time r))
  time_as = go (ltb r time) refl
    where
      go : (b : Bool) → ltb r time ≡ b → ReadsAs (read_from time_tag_width (Closed r) b (min_tag time_tag_width (distance time r))) time (number_bytes time_tag_width (distance time r))
      go true e = later_as time_tag_width (omega arith) (omega arith) r time (omega arith) (omega arith) (omega (arith, ltb-true r time e))
      go false e = earlier_as time_tag_width (omega arith) (omega arith) r time (omega arith) (omega arith) (omega (arith, ltb-false r time e))

  pub numbers_as : (n s : Bool) → ReadsAs (read_numbers r (header_of n s r time size)) (numbers_from time size) (numbers_bytes r time size)
  unfolding read_numbers header_of
  numbers_as n s = then_as time_as (λ x. mapped (numbers_from x) (read_number false length_tag_width (min_tag length_tag_width size))) (mapped_as size_as (numbers_from time))

-- ---- no more bytes are consumed than there are
pub numbers_bounded : (time : ℕ) (h : EntryHeader) → Bounded (read_numbers time h)
unfolding read_numbers
numbers_bounded time h =
    then_bounded (read_from time_tag_width (Closed time) h.time_added h.time_tag) _ (from_bounded time_tag_width (Closed time) h.time_added h.time_tag) (λ x.
    mapped_bounded (numbers_from x) _ (number_bounded length_tag_width h.length_tag false))
