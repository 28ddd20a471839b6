-- What the definitions answer at each step of reading an area, as the code takes the rest of the message.
use Rattle.codec.proofs.Prelude.{◌≡◌, refl, sym, ◌∙◌, List, [], Bool, true, ℕ, ◌+◌, ◌-◌, ◌≤◌, arith, length, take, drop, length-drop}
use Rattle.std.specs.Prelude.{Option, Ok, Err}
use Rattle.codec.specs.declared.DecodeError.{DecodeError}
use Rattle.codec.specs.Answers.{accepted, refused, decode_number, Gives}
use Rattle.codec.specs.Reader.{shift, mapped, Joins}
use Rattle.codec.proofs.Answers.{joins_refused, joins_accepted}
use Rattle.codec.proofs.Lending.{to_end}
use Rattle.path.specs.Record.{Path, components_of, path_from, sized}
use Rattle.path.proofs.Components.{well_sized}
use Rattle.path_relative.specs.Extension.{read_extension}
use Rattle.path_relative.specs.Records.{read_extends_by}
use Rattle.grouping.specs.declared.TimeRange.{TimeRange}
use Rattle.grouping.specs.Record.{Area, area_with, area_of, area_from, well_formed_area}
use Rattle.area_times.specs.declared.AreaHeader.{AreaHeader}
use Rattle.area_times.specs.Header.{header_length}
use Rattle.area_times.specs.Times.{read_times}
use Rattle.area_times.proofs.Times.{times_bounded}
use Rattle.area_area.specs.Area.{read_subspace, read_parts}
use Rattle.area_area.proofs.Subspace.{subspace_bounded}
use Rattle.area_area.proofs.DecodeExits.{tested_inside, tested_subspace, tested_times, tested_path, tested_read}

module _ (canonic : Bool) (r : Area) (formed : well_formed_area r ≡ true) (h : AreaHeader) (s : List ℕ) where
  pub parts_subspace : (e : DecodeError) {p : Path} → p ≡ path_from [] → refused (decode_number e) ≡ read_subspace canonic r.subspace h.id_written s
      → Joins (λ d q. area_with d q) (path_from []) (Err e) p (shift header_length (mapped area_from (read_parts canonic (area_of r) h) s))
  parts_subspace e blank f = joins_refused e blank (rw (tested_subspace canonic r h s (decode_number e) (sym f)) refl)

  module _ {i : Option (List ℕ)} {a : ℕ} (subspace : accepted i a ≡ read_subspace canonic r.subspace h.id_written s) where
    pub parts_first : a ≤ length s
    parts_first = (subspace_bounded r.subspace h.id_written canonic).bound s i a (sym subspace)

    pub parts_times : (e : DecodeError) {p : Path} → p ≡ path_from [] → refused (decode_number e) ≡ read_times canonic r.times h (take (length s - a) (drop a s))
        → Joins (λ d q. area_with d q) (path_from []) (Err e) p (shift header_length (mapped area_from (read_parts canonic (area_of r) h) s))
    parts_times e blank f = joins_refused e blank (rw (tested_times canonic r h s i a (sym subspace) (decode_number e) (sym (rw to_end at f))) refl)

    module _ {t : TimeRange} {b : ℕ} (times : accepted t b ≡ read_times canonic r.times h (take (length s - a) (drop a s))) where
      read : read_times canonic r.times h (drop a s) ≡ accepted t b
      read = sym (rw to_end at times)

      pub parts_second : a + b ≤ length s
      parts_second = omega (arith, parts_first, (times_bounded r.times h canonic).bound (drop a s) t b read, length-drop a s)

      module _ {p : Path} where
        pub parts_path : (e : DecodeError) → Gives (path_from []) (Err e) p (read_extends_by sized canonic r.path (drop (a + b) s))
            → Joins (λ d q. area_with d q) (path_from []) (Err e) p (shift header_length (mapped area_from (read_parts canonic (area_of r) h) s))
        parts_path e g =
            let f : refused (decode_number e) ≡ mapped path_from (read_extension canonic (components_of r.path)) (drop (a + b) s) = rw (well_sized r.path formed) at g.answer in
            joins_refused e (g.value ∙ rw (well_sized r.path formed, ← f) refl) (rw (tested_path canonic r h s i a (sym subspace) t b read (decode_number e) (sym f)) refl)

        module _ (n : ℕ) (g : Gives (path_from []) (Ok n) p (read_extends_by sized canonic r.path (drop (a + b) s))) where
          whole : mapped area_from (read_parts canonic (area_of r) h) s ≡ accepted (record { subspace = i; path = p; times = t }) (a + (b + n))
          whole = tested_read canonic r h s i a (sym subspace) t b read p n (sym (rw (well_sized r.path formed) at g.answer))

          pub parts_inside : a + (b + n) ≤ length s
          parts_inside = tested_inside canonic r h s _ _ whole

          pub parts_read : Joins (λ d q. area_with d q) (path_from []) (Ok (record { value = record { subspace = i; times = t }; consumed = header_length + (a + (b + n)) })) p (shift header_length (mapped area_from (read_parts canonic (area_of r) h) s))
          parts_read = joins_accepted _ (rw whole refl)
