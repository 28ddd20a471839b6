-- Reading within a path: a reference of which all components are told to be shared is a prefix; and what the definitions answer at each exit of the code.
use Rattle.codec.proofs.Prelude.{◌≡◌, refl, sym, ◌∙◌, List, Bool, true, false, cond, ◌&&◌, ℕ, arith, eqb, eqb-true, ne_eqb, length, take_all}
use Rattle.codec.specs.Answers.{Answer, accepted, refused}
use Rattle.codec.specs.Reader.{bind, named, passed, checked, mapped, on_formed}
use Rattle.codec.specs.Reads.{Yields}
use Rattle.codec.proofs.Readers.{bind_inv, passed_inv}
use Rattle.path.specs.Record.{Path, components_of, path_from, sized}
use Rattle.path.specs.inside.Sizes.{Leads}
use Rattle.path.specs.Prefix.{shared, is_prefix}
use Rattle.path.proofs.Record.{components_of_lem}
use Rattle.path.proofs.Components.{sized_formed, count_is}
use Rattle.path.proofs.Prefix.{takes_prefix}
use Rattle.path_suffix_decode.specs.After.{read_after}
use Rattle.path_relative.specs.Against.{read_against}
use Rattle.path_relative.specs.Records.{read_against_by, read_within_by}
use Rattle.path_relative.specs.inside.Reading.{ToldShared, read_joined}
use Rattle.path_relative.proofs.Alike.{on_alike}
use Rattle.path_relative.proofs.Exits.{joined_on}

-- ---- whether a reference is a prefix of the path that was read against it
module _ {canonic : Bool} {r p : Path} {k : ℕ} (t : ToldShared canonic r p k) where
  counted : length (components_of r) ≡ r.count
  counted = count_is r (sized_formed t.alike.left.fits)

  pub all_told : r.count ≡ k → is_prefix (components_of r) (components_of p) ≡ true
  all_told e =
      let n : length (components_of r) ≡ k = counted ∙ e in
      takes_prefix (components_of r) (components_of p) (rw n (sym t.alike.same ∙ take_all k (components_of r) (omega (arith, n))))

  pub fewer_told : canonic ≡ true → (r.count ≡ k → ⊥) → is_prefix (components_of r) (components_of p) ≡ false
  unfolding is_prefix
  fewer_told e ne = ne_eqb (shared (components_of r) (components_of p)) (length (components_of r)) (λ z. ne (sym counted ∙ sym z ∙ t.most e))

  -- comparing them whole is not refused
  pub both_told : (sized r && sized p) ≡ true
  both_told = rw t.alike.left.fits t.alike.right.fits

-- ---- what follows the shared count and the sizes
module _ (canonic : Bool) (r : Path) (k total count : ℕ) where
  pub joined_told : Leads r k → Yields (read_joined canonic r k total count) (λ p. ToldShared canonic r p k)
  joined_told here = record {
    holds = λ s p n small e.
        let (q, m, f, g) = bind_inv (read_after canonic r k total count s) (λ p n. passed (cond canonic (eqb (shared (components_of r) (components_of p)) k) true) (accepted p n)) p n (sym (joined_on canonic r k here total count s) ∙ e) in
        let (ok, same, x) = passed_inv (cond canonic (eqb (shared (components_of r) (components_of q)) k) true) q m p n g in
        record {
          alike = rw same at ((on_alike canonic r k here total count).holds s q m small f);
          most = λ c. eqb-true (shared (components_of r) (components_of p)) k (rw (same, c) at ok);
        };
  }

-- ---- the whole, by what reading against the reference answers
pub within_on : (formed : Path → Bool) (canonic : Bool) (r : Path) (s : List ℕ)
    → read_within_by formed canonic r s ≡ bind (read_against_by formed canonic r s) (λ p n. passed (is_prefix (components_of r) (components_of p)) (accepted p n))
within_on formed canonic r s = whole (formed r)
  where
    judged : (t : Bool) (cs : List (List ℕ)) (n : ℕ) → named path_from (passed t (accepted cs n)) ≡ passed t (accepted (path_from cs) n)
    judged true cs n = refl
    judged false cs n = refl

    go : (x : Answer (List (List ℕ))) → named path_from (bind x (λ cs n. passed (is_prefix (components_of r) cs) (accepted cs n)))
        ≡ bind (named path_from x) (λ p n. passed (is_prefix (components_of r) (components_of p)) (accepted p n))
    go (accepted cs n) = rw (components_of_lem cs) (judged (is_prefix (components_of r) cs) cs n)
    go (refused k) = refl

    whole : (b : Bool) → on_formed b (mapped path_from (checked (is_prefix (components_of r)) (read_against canonic (components_of r)))) s
        ≡ bind (on_formed b (mapped path_from (read_against canonic (components_of r))) s) (λ p n. passed (is_prefix (components_of r) (components_of p)) (accepted p n))
    whole true = go (read_against canonic (components_of r) s)
    whole false = refl
