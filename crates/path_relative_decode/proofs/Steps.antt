-- What the definitions answer at each step of reading against a path and as its extension, as the code takes the rest of the message.
use Rattle.codec.proofs.Prelude.{◌≡◌, refl, sym, ◌∙◌, ◌⊎◌, inl, inr, List, [], Bool, true, false, ℕ, ◌+◌, ◌-◌, ◌≤◌, ◌<◌, add_assoc, arith, leb, leb-true, leb-false, le-leb, length, take, drop, length-drop}
use Rattle.std.specs.Prelude.{Ok, Err}
use Rattle.codec.specs.declared.DecodeError.{DecodeError}
use Rattle.codec.specs.declared.DecodeError.TheVariants as decoding
use Rattle.codec.specs.Answers.{accepted, refused, decode_number, AllBytes, Gives}
use Rattle.codec.specs.Reader.{shift, checked}
use Rattle.codec.proofs.Answers.{gives_refused, later_accepted, later_refused}
use Rattle.codec.proofs.Bytes.{AllBytes-drop}
use Rattle.codec.proofs.Lending.{to_end}
use Rattle.compact_u64.specs.Number.{read_standalone}
use Rattle.compact_u64.proofs.Exits.{standalone_inside}
use Rattle.path.specs.Record.{Path, sum_of, components_of, path_from, sized}
use Rattle.path.specs.Limits.{max_component_count, max_path_length, total_of}
use Rattle.path.specs.Flat.{path_in, lent}
use Rattle.path.proofs.Components.{sized_formed, count_is, total_small, whole}
use Rattle.path.proofs.Records.{lent_known, span_start}
use Rattle.path_suffix.specs.declared.Sizes.{Sizes}
use Rattle.path_suffix.specs.Suffix.{read_sizes}
use Rattle.path_suffix_decode.specs.After.{read_after}
use Rattle.path_suffix_decode.proofs.Exits.{sizes_inside}
use Rattle.path_suffix_decode.proofs.Within.{after_bounded}
use Rattle.path_codec.specs.Plain.{read_path}
use Rattle.path_relative.specs.Records.{read_against_by, read_extends_by}
use Rattle.path_relative.specs.inside.Reading.{ToldShared, read_joined}
use Rattle.path_relative.proofs.Exits.{against_malformed, against_first, against_sizes, against_above, against_joined, joined_bounded, extends_unformed, extends_sizes, extends_long, extends_many, extends_more}
use Rattle.path_relative.proofs.Within.{joined_told}

-- ---- against a path
module _ (canonic : Bool) (r : Path) (s : List ℕ) (i : ℕ) where
  pub by_unsized : sized r ≡ false → Gives (path_from []) (Err decoding.Malformed) (path_from []) (read_against_by sized canonic r (drop i s))
  by_unsized e = gives_refused decoding.Malformed (sym (against_malformed sized canonic r (drop i s) e))

  module _ (fits : sized r ≡ true) where
    pub by_number : (e : DecodeError) → refused (decode_number e) ≡ read_standalone canonic (drop i s) → Gives (path_from []) (Err e) (path_from []) (read_against_by sized canonic r (drop i s))
    by_number e h = gives_refused e (sym (against_first sized canonic r fits s i (decode_number e) (sym h)))

    module _ (k a : ℕ) (number : accepted k a ≡ read_standalone canonic (drop i s)) where
      pub by_first : i + a ≤ length s
      by_first = standalone_inside canonic s i k a (sym number)

      pub by_sizes : (e : DecodeError) → refused (decode_number e) ≡ read_sizes canonic (drop (i + a) s) → Gives (path_from []) (Err e) (path_from []) (read_against_by sized canonic r (drop i s))
      by_sizes e h = gives_refused e (sym (against_sizes sized canonic r fits s i k a (sym number) (decode_number e) (sym h)))

      module _ (h : Sizes) (b : ℕ) (sizes : accepted h b ≡ read_sizes canonic (drop (i + a) s)) where
        pub by_rest : i + a + b ≤ length s
        by_rest = sizes_inside canonic s (i + a) h b (sym sizes)

        pub by_above : r.count < k → Gives (path_from []) (Err decoding.TheirFault) (path_from []) (read_against_by sized canonic r (drop i s))
        by_above above =
            gives_refused decoding.TheirFault (sym (against_above sized canonic r fits s i k a (sym number) h.total h.count b (sym sizes) (omega (arith, count_is r (sized_formed fits), above))))

        is : read_against_by sized canonic r (drop i s) ≡ shift a (shift b (read_joined canonic r k h.total h.count (drop (i + a + b) s)))
        is = against_joined sized canonic r fits s i k a (sym number) h.total h.count b (sym sizes)

        module _ {out : Path} where
          pub by_stopped : (e : DecodeError) → Gives (path_from []) (Err e) out (read_joined canonic r k h.total h.count (take (length s - (i + a + b)) (drop (i + a + b) s))) → Gives (path_from []) (Err e) out (read_against_by sized canonic r (drop i s))
          by_stopped e g = rw is (later_refused a e (later_refused b e (rw to_end at g)))

          module _ (n : ℕ) (g : Gives (path_from []) (Ok n) out (read_joined canonic r k h.total h.count (take (length s - (i + a + b)) (drop (i + a + b) s)))) where
            pub by_inside : i + a + b + n ≤ length s
            by_inside = omega (arith, by_rest, (joined_bounded canonic r k h.total h.count).bound (drop (i + a + b) s) out n (sym (rw to_end at g.answer)), length-drop (i + a + b) s)

            pub by_read : Gives (path_from []) (Ok (a + b + n)) out (read_against_by sized canonic r (drop i s))
            by_read = rw (is, add_assoc a b n) (later_accepted a (b + n) (later_accepted b n (rw to_end at g)))

            pub by_told : k ≤ r.count → AllBytes s → ToldShared canonic r out k
            by_told there small =
                (joined_told canonic r k h.total h.count (record { fits = fits; there = there })).holds (drop (i + a + b) s) out n (AllBytes-drop (i + a + b) s small) (sym (rw to_end at g.answer))

-- ---- as an extension: the counts at hand are those of the whole path
pub record Sized (r : Path) (n used : ℕ) : Type 0 where
  pub count : n ≡ r.count
  pub total : used ≡ total_of (components_of r)
  pub few : n ≤ max_component_count
  pub short : used ≤ max_path_length

pub all_sized : (e : List ℕ) → sized (path_in e) ≡ true → {n used : ℕ} → n ≡ lent 0 (λ p. p.count) e → used ≡ lent 0 (λ p. sum_of (take (n - 0) (drop 0 p.lengths))) e → Sized (path_in e) n used
all_sized e fits {n} {used} count sum =
    let f = sized_formed fits in
    let all : n ≡ (path_in e).count = count ∙ lent_known e f 0 (λ p. p.count) in
    let total : used ≡ total_of (components_of (path_in e)) = sum ∙ span_start e f n (omega (arith, all)) ∙ rw (all, whole (path_in e) f) in
    record { count = all; total = total; few = omega (arith, all, f.well.count); short = omega (arith, total, total_small (path_in e) f) }

module _ (canonic : Bool) (r : Path) (s : List ℕ) (i : ℕ) where
  pub extends_unsized : sized r ≡ false → Gives (path_from []) (Err decoding.Malformed) (path_from []) (read_extends_by sized canonic r (drop i s))
  extends_unsized e = gives_refused decoding.Malformed (sym (extends_unformed sized canonic r (drop i s) e))

  module _ (fits : sized r ≡ true) where
    pub extends_stopped : (e : DecodeError) → refused (decode_number e) ≡ read_sizes canonic (drop i s) → Gives (path_from []) (Err e) (path_from []) (read_extends_by sized canonic r (drop i s))
    extends_stopped e h = gives_refused e (sym (extends_sizes sized canonic r fits (sized_formed fits) s i (decode_number e) (sym h)))

    module _ (h : Sizes) (b : ℕ) (sizes : accepted h b ≡ read_sizes canonic (drop i s)) where
      pub extends_rest : i + b ≤ length s
      extends_rest = sizes_inside canonic s i h b (sym sizes)

      module _ (bytes : AllBytes s) where
        -- the whole is above a limit
        pub extends_over : (max_path_length < total_of (components_of r) + h.total) ⊎ (max_component_count < r.count + h.count) → read_extends_by sized canonic r (drop i s) ≡ checked (λ p. false) (read_path canonic) (drop i s)
        extends_over (inl above) = extends_long sized canonic r fits (sized_formed fits) s i h.total h.count b (sym sizes) bytes above
        extends_over (inr above) = go (leb (total_of (components_of r) + h.total) max_path_length) refl
          where
            go : (t : Bool) → leb (total_of (components_of r) + h.total) max_path_length ≡ t → read_extends_by sized canonic r (drop i s) ≡ checked (λ p. false) (read_path canonic) (drop i s)
            go true e = extends_many sized canonic r fits (sized_formed fits) s i h.total h.count b (sym sizes) bytes (leb-true _ _ e) above
            go false e = extends_long sized canonic r fits (sized_formed fits) s i h.total h.count b (sym sizes) bytes (leb-false _ _ e)

        -- within both, what is said of the components after all of the path's
        module _ (total : total_of (components_of r) + h.total ≤ max_path_length) (count : r.count + h.count ≤ max_component_count) (n : ℕ) (all : n ≡ r.count) where
          is_more : read_extends_by sized canonic r (drop i s) ≡ shift b (read_after canonic r n h.total h.count (drop (i + b) s))
          unfolding read_after
          is_more =
              extends_more sized canonic r fits (sized_formed fits) s i h.total h.count b (sym sizes) bytes total count
              ∙ rw (all, fits, le-leb r.count r.count (omega arith), whole r (sized_formed fits))

          module _ {out : Path} where
            pub extends_refused : (e : DecodeError) → Gives (path_from []) (Err e) out (read_after canonic r n h.total h.count (take (length s - (i + b)) (drop (i + b) s))) → Gives (path_from []) (Err e) out (read_extends_by sized canonic r (drop i s))
            extends_refused e g = rw is_more (later_refused b e (rw to_end at g))

            module _ (m : ℕ) (g : Gives (path_from []) (Ok m) out (read_after canonic r n h.total h.count (take (length s - (i + b)) (drop (i + b) s)))) where
              pub extends_inside : i + b + m ≤ length s
              extends_inside = omega (arith, extends_rest, (after_bounded canonic r n h.total h.count).bound (drop (i + b) s) out m (sym (rw to_end at g.answer)), length-drop (i + b) s)

              pub extends_read : Gives (path_from []) (Ok (b + m)) out (read_extends_by sized canonic r (drop i s))
              extends_read = rw is_more (later_accepted b m (rw to_end at g))
