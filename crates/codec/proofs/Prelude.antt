-- What proofs take of the kit: its names in one module, so that a file of proofs/ imports them in one line.
pub use Prim.Native.Nat.{◌%◌, ◌*◌, ◌+◌, ◌-◌, ◌/◌, ◌<◌, ◌^◌, ◌≤◌, min, suc, zero, ℕ}
pub use mathlib.Core.Bool.{Bool, beq as Bool·beq, ◌&&◌, ◌||◌, and-false, and-true, cond, false, false≢true, not, true, true≢false}
pub use mathlib.Core.List.{List, [], ◌++◌, ◌∷◌, append_assoc, append-nil, flatten, map, map-append}
pub use mathlib.Core.Logic.{◌↔◌, ◌⊎◌, inl, inr, ⊎_elim}
pub use mathlib.Core.Option.{Option, none, some}
pub use mathlib.Core.Path.{◌∙◌, ◌≡◌, ap, refl, sym}
pub use native.Mathlib.Nat.{add_assoc, add-zero, div-div-eq-div-mul, mod-eq_of_lt, mod-lt, mod-one, mul-add-div_right, mul-add-mod_self_right, mul_assoc, pow-suc, pow-succ', sub-zero, suc-add, zero-add, zero-sub}
pub use native.Mathlib.Numerals.{add-one}
pub use native.Mathlib.Omega.{arith}
pub use lib.Arith.{digits_div, digits_lt, mod-mul}
pub use lib.Dec.{eqb, leb, ltb}
pub use lib.ListN.{get_or-append as List·getD-append, get_or-eq_default as List·getD-eq-default, drop, drop_of_length-le, get_or, length, length-append, length-drop, length-map, length-replicate, length-set, length-take, replicate, set, take, take-append-drop}
pub use lib.Pow.{pow-add, pow_mono}
pub use lib.Seq.{drop-append-add, drop-append-le, drop-append_seam, drop_at, drop-cons, drop-drop, drop-length, drop-set-lt, get_or-drop, get_or-set_same, get_or-take, length-take-le, set_at, take-add, take_all, take-append-add, take-append-le, take-append_seam, take_at, take-nil, take-suc, take-suc-set, take-take}
pub use denote.Array.{each}
pub use denote.Laws.{Is}
pub use denote.Plain.{UInt}
pub use denote.Shadow.{shadow}
pub use borrow.Author.Rules.{rules}
pub use borrow.Author.Tests.{eq-eqb, eqb-false, eqb-true, le-leb, le-ltb, leb-false, leb-true, lt-leb, lt-ltb, ltb-false, ltb-true, ne_eqb, not-false, not-true}
pub use borrow.Rule.Slice.PartMut.{put_mid}
pub use mir.Syntax.{w64, w8}
pub use mir.Val.{Fits, Val}
