-- Files in a map, and a piece of what is left of one.
use Rattle.std.proofs.Common.{◌≡◌, ℕ, ◌+◌, ◌<◌, ◌≤◌, cond, List, [], ◌∷◌, ◌++◌, length, take, drop, get_or, slice_get, Option, Some, None, refl, sym, ap, ◌∙◌, arith, length-append}
use Rattle.std.specs.Prelude.{string_bytes, bytes_eq, option_map, IfSome}
use Rattle.std.specs.Option.{ForSome}
use Rattle.std.specs.declared.string.String.{String}
use Rattle.std.specs.Map.{lookup, values_of}
use Rattle.std.proofs.lemmas.List.{map-append, get_or_append_left, take-append-le, take-append-drop, length-take-le, take_all, drop-drop}
use Rattle.std.proofs.lemmas.Option.{slice_get-map, slice_get-get_or}
use Rattle.pv_edge.specs.Files.{file}
use Rattle.pv_edge.specs.MemShelfState.{held_in, content_of, content_at, rest_in}
use Rattle.indexmap.specs.IndexMap.{insert_entry}
use Rattle.indexmap.proofs.MapLemmas.{absent_from_lookup, insert_entry-absent}

module _ {A : Type 0} where
  -- the map's look-up is `file`
  pub file_held_in : (es : List (String A × List ℕ)) (name : List ℕ) → file (held_in es) name ≡ lookup (λ k. bytes_eq name (string_bytes k)) es
  unfolding file
  file_held_in [] name = refl
  file_held_in (e ∷ es) name = ap (λ r. cond (bytes_eq name (string_bytes e.0)) (Some e.1) r) (file_held_in es name)

  -- a new file stands last
  pub held_in-push : (es : List (String A × List ℕ)) (k : String A) (v : List ℕ) → held_in (es ++ (k, v) ∷ []) ≡ held_in es ++ (string_bytes k, v) ∷ []
  held_in-push es k v = map-append (λ e. (string_bytes e.0, e.1)) es ((k, v) ∷ [])

  content_at-get_or : (es : List (String A × List ℕ)) (d : String A × List ℕ) (i : ℕ) → i < length es → content_at es i ≡ (get_or es i d).1
  content_at-get_or es d i l = ap content_of (slice_get-get_or es i d l)

  -- and the files before it keep their places
  pub content_at-push : (es : List (String A × List ℕ)) (e : String A × List ℕ) (i : ℕ) → i < length es → content_at (es ++ e ∷ []) i ≡ content_at es i
  content_at-push es e i l =
      let longer : i < length (es ++ e ∷ []) = omega (arith, length-append {A = String A × List ℕ}) in
      content_at-get_or (es ++ e ∷ []) e i longer ∙ ap (λ f. f.1) (get_or_append_left es (e ∷ []) e i l) ∙ sym (content_at-get_or es e i l)

  -- where the map finds the name at a place, the file of that name is there
  pub file_at : (es : List (String A × List ℕ)) (name : List ℕ) (i : ℕ) → i < length es → slice_get (values_of es) i ≡ lookup (λ k. bytes_eq name (string_bytes k)) es
      → file (held_in es) name ≡ Some (content_at es i)
  file_at [] name i l v = absurd (omega arith)
  file_at (e ∷ es) name i l v =
      let here = slice_get-get_or (e ∷ es) i e l in
      file_held_in (e ∷ es) name ∙ sym v ∙ slice_get-map (λ f. f.1) (e ∷ es) i ∙ ap (option_map (λ f. f.1)) here ∙ ap Some (sym (content_at-get_or (e ∷ es) e i l))

  pub file_found : (es : List (String A × List ℕ)) (name : List ℕ) (place : Option ℕ) → IfSome place (λ i. i < length es)
      → IfSome place (λ i. slice_get (values_of es) i ≡ lookup (λ k. bytes_eq name (string_bytes k)) es) → IfSome place (λ i. file (held_in es) name ≡ Some (content_at es i))
  file_found es name None l v = tt
  file_found es name (Some i) l v = file_at es name i l v

  -- nor does it change what is left of the picked file
  pub rest_in-push : (es : List (String A × List ℕ)) (e : String A × List ℕ) (picked : Option ℕ) (position : ℕ) → ForSome picked (λ i. i < length es)
      → rest_in (es ++ e ∷ []) picked position ≡ rest_in es picked position
  rest_in-push es e None position l = refl
  rest_in-push es e (Some i) position l = ap (drop position) (content_at-push es e i (l i refl))

  -- a map without the name puts its file last
  pub insert_entry-missing : (es : List (String A × List ℕ)) (k : String A) (v : List ℕ) → file (held_in es) (string_bytes k) ≡ None
      → insert_entry (λ x y. bytes_eq (string_bytes x) (string_bytes y)) es k v ≡ es ++ (k, v) ∷ []
  insert_entry-missing es k v none = insert_entry-absent (λ x y. bytes_eq (string_bytes x) (string_bytes y)) k v es (absent_from_lookup (λ x. bytes_eq (string_bytes k) (string_bytes x)) es (sym (file_held_in es (string_bytes k)) ∙ none))

-- n bytes from a place on, and what follows them
pub whole_piece : (xs more : List ℕ) (at n : ℕ) → n ≤ length (drop at xs) → drop at xs ≡ take n (take n (drop at xs) ++ more) ++ drop (at + n) xs
whole_piece xs more at n l =
    let m : n ≤ length (take n (drop at xs)) = omega (arith, length-take-le n (drop at xs) l) in
    sym (ap (λ z. z ++ drop (at + n) xs) (take-append-le n (take n (drop at xs)) more m ∙ take_all n (take n (drop at xs)) (omega (arith, length-take-le n (drop at xs) l)))
    ∙ ap (λ z. take n (drop at xs) ++ z) (sym (drop-drop n at xs)) ∙ take-append-drop n (drop at xs))

pub ruleset pushes = (held_in-push, rest_in-push)
