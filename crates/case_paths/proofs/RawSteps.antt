-- Reading a record's lengths one after another, and a record of parts that it holds.
use Rattle.codec.proofs.Prelude.{◌≡◌, refl, sym, ap, ◌∙◌, List, [], ◌∷◌, ◌++◌, append-nil, append_assoc, Bool, true, false, ◌&&◌, ℕ, ◌+◌, ◌%◌, ◌≤◌, ◌<◌, leb, mod-eq_of_lt, true≢false, take-append-drop, arith, add-one, length, take, drop, set, get_or, length-set, take-suc-set, leb-true, ◌/◌, zero, suc, take_all, drop_of_length-le, put_mid, ◌-◌, le-ltb}
use Rattle.std.proofs.Common.{Option, Some, None, Result, replicate}
use Rattle.std.specs.Option.{option_map}
use Rattle.std.specs.List.{list_all, enumerate_from}
use Rattle.std.proofs.lemmas.List.FromFn.{length-enumerate_from, get_or-enumerate_from}
use Rattle.std.proofs.lemmas.List.{at_drop_more, at_drop_all}
use Rattle.codec.specs.Answers.{said, unsaid, refused_writing}
use Rattle.std.specs.Int.{w16, to_be_bytes}
use Rattle.compact_u64.specs.BigEndian.{big_endian}
use Rattle.codec.specs.Format.{length_answer, over}
use Rattle.codec.proofs.Lending.{length_refused_value}
use Rattle.codec.proofs.Tests.{and_left, and_right}
use Rattle.path.specs.Limits.{max_component_length, max_component_count, max_path_length}
use Rattle.path.specs.Record.{Path, all_at_most, used, well_formed}
use Rattle.path.specs.Flat.{path_size, shorts, path_flat, path_in}
use Rattle.path.specs.Puts.{Puts}
use Rattle.path.proofs.Puts.{puts_whole, puts_tail, puts_then}
use Rattle.path.proofs.Record.{well_formed_lem}
use Rattle.path.proofs.Loads.{at_most_append, at_most_mono, path_fits}
use Rattle.path_codec.specs.Plain.{plain_path}
use Rattle.path_codec.proofs.Plain.{plain_malformed}
use Rattle.text.specs.Parts.{parts}
use Rattle.text.specs.Hex.{unhex}
use Rattle.text.specs.Fields.{read_hex, hex_answer, hex_buffer}
use Rattle.text.specs.declared.HexError.{HexError}
use Rattle.text.proofs.HexAnswers.{hex_some, some_bytes_lem}
use Rattle.path.proofs.Lists.{drop_zeros}
use Rattle.std.specs.Result.{result_ok}
use Rattle.decimal.specs.Decimal.{read_decimal}
use Rattle.case_paths.specs.Raw.{path_of, read_decimals, read_bytes}

-- ---- the first n numbers of a field were read
pub record LengthsRead (f lengths : List ℕ) (n : ℕ) : Type 0 where
  pub counted : length (parts 44 f) ≡ max_component_count
  pub room : length lengths ≡ max_component_count
  pub still : read_decimals (parts 44 f) ≡ option_map (λ vs. take n lengths ++ vs) (read_decimals (drop n (parts 44 f)))

whole : (o : Option (List ℕ)) → o ≡ option_map (λ vs. [] ++ vs) o
whole None = refl
whole (Some vs) = refl

pub lengths_none : (f lengths : List ℕ) → length (parts 44 f) ≡ max_component_count → length lengths ≡ max_component_count → LengthsRead f lengths 0
lengths_none f lengths counted room = record { counted = counted; room = room; still = whole (read_decimals (parts 44 f)) }

more : (a lengths : List ℕ) (v : ℕ) (o : Option (List ℕ)) → a ++ (v ∷ []) ≡ lengths → option_map (λ vs. a ++ vs) (option_map (λ vs. v ∷ vs) o) ≡ option_map (λ vs. lengths ++ vs) o
more a lengths v None e = refl
more a lengths v (Some vs) e = rw (← e) (ap (λ (l : List ℕ). Some l) (sym (append_assoc a (v ∷ []) vs)))

module _ {f lengths : List ℕ} {n : ℕ} (l : LengthsRead f lengths n) where
  pub lengths_all : max_component_count ≤ n → read_decimals (parts 44 f) ≡ Some lengths
  lengths_all h =
      l.still ∙ at_drop_all (λ (x : List (List ℕ)). option_map (λ vs. take n lengths ++ vs) (read_decimals x)) (parts 44 f) n (omega (arith, l.counted))
      ∙ rw (take_all n lengths (omega (arith, l.room)), append-nil) refl

  module _ (t : List ℕ) (h : n < length (parts 44 f)) (e : t ≡ get_or (parts 44 f) n t) where
    first : read_decimals (parts 44 f) ≡ option_map (λ vs. take n lengths ++ vs) (read_decimals (t ∷ drop (n + 1) (parts 44 f)))
    first = l.still ∙ at_drop_more (λ (x : List (List ℕ)). option_map (λ vs. take n lengths ++ vs) (read_decimals x)) (parts 44 f) n t h
        ∙ ap (λ (x : List ℕ). option_map (λ vs. take n lengths ++ vs) (read_decimals (x ∷ drop (n + 1) (parts 44 f)))) (sym e)

    pub lengths_refused : unsaid 6 ≡ read_decimal t → read_decimals (parts 44 f) ≡ None
    lengths_refused none = first ∙ rw (← none)

    pub lengths_next : (v : ℕ) → said v ≡ read_decimal t → LengthsRead f (set lengths n v) (n + 1)
    lengths_next v some = record {
      counted = l.counted;
      room = simp length-set l.room;
      still = first ∙ rw (← some) (more (take n lengths) (take (n + 1) (set lengths n v)) v (read_decimals (drop (n + 1) (parts 44 f))) (sym (rw (add-one n) (take-suc-set lengths n v (omega (arith, l.room, l.counted))))));
    }

pub enumerated : (ps : List (List ℕ)) (n i : ℕ) (t : List ℕ) → n < length (enumerate_from 0 ps) → ◌≡◌ {A = ℕ × List ℕ} (i, t) (get_or (enumerate_from 0 ps) n (i, t)) → (i ≡ n) × (n < length ps) × (t ≡ get_or ps n t)
enumerated ps n i t h e =
    let few : n < length ps = omega (arith, length-enumerate_from 0 ps, h) in
    let is : ◌≡◌ {A = ℕ × List ℕ} (i, t) (0 + n, get_or ps n t) = e ∙ get_or-enumerate_from 0 ps n (i, t) few in
    (omega (arith, ap (λ (p : ℕ × List ℕ). p.0) is), few, ap (λ (p : ℕ × List ℕ). p.1) is)

-- ---- the bytes, and zeros after them
zeros_after : (f : List ℕ) (n : ℕ) → said n ≡ read_hex f max_path_length → hex_buffer f (replicate max_path_length 0) ≡ unhex f ++ replicate (max_path_length - length (unhex f)) 0
unfolding hex_buffer
zeros_after f n e =
    let s = some_bytes_lem f n max_path_length e in
    rw (s.0, le-ltb max_path_length (length (unhex f)) (omega (arith, s.1, s.2))) (ap (λ (l : List ℕ). unhex f ++ l) (drop_zeros (length (unhex f)) max_path_length))

pub bytes_read : (f : List ℕ) (r : Result ℕ HexError) (n : ℕ) {left : List ℕ} → result_ok r ≡ Some n → hex_answer r ≡ read_hex f max_path_length → left ≡ hex_buffer f (replicate max_path_length 0) → Some left ≡ read_bytes f
bytes_read f r n {left} some answer is =
    let here = hex_some r f max_path_length n some answer in
    let bytes : left ≡ unhex f ++ replicate (max_path_length - length (unhex f)) 0 = is ∙ zeros_after f n here in
    rw (← here, bytes) refl

-- ---- parts put one after another
pub puts_mid : {na : ℕ} {a l l₁ : List ℕ} → Puts na a l l₁ → (k : ℕ) (b : List ℕ) → length b ≡ k → Puts (na + k) (a ++ b) l (put_mid na k l₁ b)
puts_mid {na} {a} {l} {l₁} p k b long =
    let e : put_mid na k l₁ b ≡ take na l₁ ++ over b (drop na l₁) = rw long refl in
    rw e (puts_then p (record { long = long; is = refl }))

pub two : (v : ℕ) → to_be_bytes w16 v ≡ big_endian 2 v
two v = let e : v / 1 ≡ v = omega arith in rw e

pub puts_part : (k : ℕ) {na nb : ℕ} {a b l l₁ m : List ℕ} → Puts na a l l₁ → length l₁ ≡ na + k → Puts nb b (take k (drop na l₁)) m → Puts (na + nb) (a ++ b) l (put_mid na k l₁ m)
puts_part k {na} {nb} {a} {b} {l} {l₁} {m} p long q =
    let e : k ≡ length l₁ - na = omega (arith, long) in
    rw e (puts_tail p (rw (← e) q))

pub puts_all : (n : ℕ) (bs : List ℕ) {l left : List ℕ} → left ≡ bs → length bs ≡ n → length l ≡ n → Puts n bs l left
puts_all n bs {l} {left} e h k =
    let none : drop (length bs) l ≡ [] = drop_of_length-le l (omega (arith, h, k)) in
    record { long = h; is = e ∙ sym (rw none (append-nil bs)) }

-- ---- a record of parts that it holds
pub raw_record : {l left : List ℕ} (bs ls : List ℕ) (n : ℕ) → Puts path_size (n ∷ (shorts ls ++ bs)) l left → length l ≡ path_size → length bs ≡ max_path_length → length ls ≡ max_component_count → n ≤ max_component_count → all_at_most 65535 ls ≡ true
    → path_in left ≡ path_of bs ls n
unfolding path_flat
raw_record {l} {left} bs ls n p long room slots few small =
    let count : n % 256 ≡ n = mod-eq_of_lt (omega arith) in
    let flat : path_flat (path_of bs ls n) ≡ n ∷ (shorts ls ++ bs) = rw count in
    ap path_in (puts_whole p (omega (arith, long)) ∙ sym flat) ∙ rw append-nil at (path_fits (path_of bs ls n) [] room slots (omega arith) small)

-- parts that no record holds are refused too
module _ (p : Path) where
  refused_so : (well_formed p ≡ true → ⊥) → refused_writing 5 ≡ length_answer plain_path p
  refused_so never = go (well_formed p) refl
    where
      go : (b : Bool) → well_formed p ≡ b → refused_writing 5 ≡ length_answer plain_path p
      go true w = absurd (never w)
      go false w = length_refused_value plain_path p 5 (plain_malformed p w)

  pub many_refused : max_component_count < p.count → refused_writing 5 ≡ length_answer plain_path p
  many_refused h = refused_so (λ w. omega (arith, (well_formed_lem p w).count, h))

  pub long_refused : all_at_most 65535 p.lengths ≡ false → refused_writing 5 ≡ length_answer plain_path p
  long_refused e = refused_so (λ w.
      let f = well_formed_lem p w in
      let all = rw take-append-drop at (at_most_append 65535 (take p.count p.lengths) (drop p.count p.lengths)
      (at_most_mono max_component_length 65535 (used p) (omega arith) f.short) (at_most_mono 0 65535 (drop p.count p.lengths) (omega arith) f.lengths)) in
      true≢false (sym all ∙ e))

pub at_most_at : (n : ℕ) (s : List ℕ) (i : ℕ) → all_at_most n s ≡ true → get_or s i 0 ≤ n
at_most_at n [] i e = omega arith
at_most_at n (x ∷ s) zero e = leb-true x n (and_left (leb x n) (all_at_most n s) e)
at_most_at n (x ∷ s) (suc i) e = at_most_at n s i (and_right (leb x n) (all_at_most n s) e)

-- ---- in std's word
pub at_most_list : (n : ℕ) (s : List ℕ) → list_all (λ x. leb x n) s ≡ all_at_most n s
at_most_list n [] = refl
at_most_list n (x ∷ s) = ap (λ (b : Bool). leb x n && b) (at_most_list n s)
