-- Printed steps without expressions, read with anything after them that may be there.
use Rattle.jsonb.proofs.Common.{◌≡◌, ℕ, zero, suc, ◌<◌, ◌^◌, List, [], ◌∷◌, ◌++◌, length, Bool, true, false, Option, Some, None, refl, ◌∙◌, ap, arith, append_assoc, length-append, cond, ℤ, pos, negsuc, nat_lt, ◌==◌, ◌||◌, flat_map, codes, is_ascii_digit, AllByRecursion, common_steps, decimal, signed_decimal, Decides-ltb, nat_tests, Rule, ◌>>◌, parsed_map, bytes, literal, repeat, ws, past, is_space, nat8, is_plain_name, quoted_text, name_text, front, stops, begins, begins-decimal, is_number_start, is_sign, past-run, natural_below-decimal, natural_below-none, integer_within-signed_decimal, integer_within-none, quoted-quoted_text, quoted-none, name-plain, begins-plain, begins-signed_decimal, repeat-goes, repeat-ends, IsName, Place, from_front, from_last, Entry, single, slice, LevelEnd, level, last_level, Levels, Step, dot_wildcard, recursive_dot_wildcard, bracket_wildcard, dot_field, colon_field, object_field, array_indices, keyword, spaced, place, entry, levels, field, entries, wildcard, named_field, bracket_field, inner, entries_text, other_entry_text, place_text, entry_text, levels_text, step_text}
use Rattle.jsonb.proofs.PathShape.{IsIndex, IsPlace, IsEntry, IsLevelEnd, AreLevels, IsInner}

-- ---- white space

past-cons : (p : ℕ → Bool) (b : ℕ) (xs : List ℕ) → past p (b ∷ xs) ≡ cond (p b) (past p xs) (b ∷ xs)
past-cons p b xs = grind (arith, common_steps)

-- what is left after white space does not begin with more of it
pub past-stops : (test : ℕ → Bool) (input : List ℕ) → stops test (past test input) ≡ true
past-stops test [] = refl
past-stops test (b ∷ rest) = grind (arith, past-cons test b rest, past-stops test rest)

pub past-none : (test : ℕ → Bool) (input : List ℕ) → stops test input ≡ true → past test input ≡ input
past-none test input h = past-run test [] input refl h

pub past-space : (input : List ℕ) → stops is_space input ≡ true → past is_space (32 ∷ input) ≡ input
past-space input h = past-run is_space (32 ∷ []) input refl h

pub spaced-reads : {A : Type 0} (rule : Rule A) (input : List ℕ) (a : A) (rest : List ℕ) → rule (past is_space input) ≡ Some (a, rest) →
    spaced rule input ≡ Some (a, past is_space rest)
unfolding ws
spaced-reads rule input a rest e = rw e refl

pub spaced-none : {A : Type 0} (rule : Rule A) (input : List ℕ) → rule (past is_space input) ≡ None → spaced rule input ≡ None
unfolding ws
spaced-none rule input e = rw e refl

-- the text is not there
pub literal-none : (b : ℕ) (text input : List ℕ) → begins (λ c. c == b) input ≡ false → bytes (b ∷ text) input ≡ None
literal-none b text input h = grind (arith, nat_tests)

-- ---- places in an array

-- what follows a place: a comma, a bracket, or the space before `to`
abbrev is_place_end : ℕ → Bool
is_place_end b = b == 44 || b == 93 || b == 32

-- after a place, and no sign after white space
abbrev IsBehindPlace : List ℕ → Type 0
IsBehindPlace rest = (front is_place_end rest ≡ true) × (begins is_sign (past is_space rest) ≡ false)

no_space-signed_decimal : (i : ℤ) (rest : List ℕ) → IsIndex i → past is_space (signed_decimal i ++ rest) ≡ signed_decimal i ++ rest
no_space-signed_decimal i rest fits =
    let starts = begins-signed_decimal i rest fits in past-none is_space (signed_decimal i ++ rest) (grind (arith, nat_tests))

-- after `last`, if there is no sign
last-alone : (rest : List ℕ) → IsBehindPlace rest → place (codes "last" ++ rest) ≡ Some (from_last (pos 0), rest)
unfolding place ws
last-alone rest h = grind (arith, integer_within-none, literal-none, nat_tests)

last-plus : (i : ℤ) (rest : List ℕ) → IsIndex i → front is_place_end rest ≡ true → place (codes "last+" ++ signed_decimal i ++ rest) ≡ Some (from_last i, rest)
unfolding place ws
last-plus i rest is h = grind (arith, integer_within-none, no_space-signed_decimal, integer_within-signed_decimal, nat_tests)

last-minus : (n : ℕ) (rest : List ℕ) → IsIndex (pos (suc n)) → front is_place_end rest ≡ true →
    place (codes "last-" ++ decimal (suc n) ++ rest) ≡ Some (from_last (negsuc n), rest)
unfolding place ws
last-minus n rest is h =
    let fits : nat_lt n 2147483648 ≡ true = grind (arith, nat_tests) in
    rw (integer_within-none (2 ^ 31) (codes "last-" ++ decimal (suc n) ++ rest) refl, no_space-signed_decimal (pos (suc n)) rest is)
    (rw ((integer_within-signed_decimal (2 ^ 31) (pos (suc n)) rest (omega arith) is (grind (arith, nat_tests))), fits) refl)

place-text : (p : Place) (rest : List ℕ) → IsPlace p → IsBehindPlace rest → place (place_text p ++ rest) ≡ Some (p, rest)
unfolding place
place-text (from_front i) rest is h = rw ((integer_within-signed_decimal (2 ^ 31) i rest (omega arith) is (grind (arith, nat_tests)))) refl
place-text (from_last (pos zero)) rest is h = last-alone rest h
place-text (from_last (pos (suc n))) rest is h = last-plus (pos (suc n)) rest is h.0
place-text (from_last (negsuc n)) rest is h = go (n == 2147483647) refl where
  go : (t : Bool) → (n == 2147483647) ≡ t → place (place_text (from_last (negsuc n)) ++ rest) ≡ Some (from_last (negsuc n), rest)
  go true e = rw e (last-plus (negsuc n) rest is h.0)
  go false e = rw e (last-minus n rest (grind (arith, nat_tests)) h.0)

-- ---- entries

-- what has to follow an entry
record IsBehindEntry (rest : List ℕ) : Type 0 where
  place : IsBehindPlace rest
  no_to : keyword "to" rest ≡ None
  no_space : past is_space rest ≡ rest

abbrev is_place_start : ℕ → Bool
is_place_start b = is_number_start b || b == 108

begins-place : (p : Place) (rest : List ℕ) → IsPlace p → begins is_place_start (place_text p ++ rest) ≡ true
begins-place (from_front i) rest is = let starts = begins-signed_decimal i rest is in grind (arith, nat_tests)
begins-place (from_last i) rest is = refl

begins-entry : (e : Entry) (rest : List ℕ) → IsEntry e → begins is_place_start (entry_text e ++ rest) ≡ true
begins-entry (single p) rest is = begins-place p rest is
begins-entry (slice (p, q)) rest is = simp append_assoc (begins-place p _ is.0)

entry-text : (e : Entry) (rest : List ℕ) → IsEntry e → IsBehindEntry rest → entry (entry_text e ++ rest) ≡ Some (e, rest)
unfolding entry ws
entry-text (single p) rest is h = rw (place-text p rest is h.place, h.no_space, h.no_to) refl
entry-text (slice (p, q)) rest is h =
    let starts = begins-place q rest is.1 in
    let between = past-space (place_text q ++ rest) (grind (arith, nat_tests)) in
    simp (append_assoc, place-text p (codes " to " ++ place_text q ++ rest) is.0 (refl, refl), between, place-text q rest is.1 h.place)

-- at the front of the list, or after a space
spaced_entry-text : (space : List ℕ) (e : Entry) (rest : List ℕ) → past is_space (space ++ entry_text e ++ rest) ≡ entry_text e ++ rest →
    IsEntry e → IsBehindEntry rest → spaced entry (space ++ entry_text e ++ rest) ≡ Some (e, rest)
unfolding ws
spaced_entry-text space e rest past is h = rw (past, entry-text e rest is h, h.no_space) refl

behind_others : (es : List Entry) (rest : List ℕ) → IsBehindEntry (flat_map other_entry_text es ++ 93 ∷ rest)
behind_others [] rest = record { place = (refl, refl); no_to = refl; no_space = refl }
behind_others (e ∷ es) rest = record { place = (refl, refl); no_to = refl; no_space = refl }

more_entries : (es : List Entry) (rest : List ℕ) → AllByRecursion IsEntry es → repeat (literal "," >> spaced entry)
    (flat_map other_entry_text es ++ 93 ∷ rest) ≡ Some (es, 93 ∷ rest)
more_entries [] rest are = repeat-ends (literal "," >> spaced entry) (93 ∷ rest) refl
more_entries (e ∷ es) rest are =
    let tail = flat_map other_entry_text es ++ 93 ∷ rest in
    let starts = begins-entry e tail are.0 in
    let here = spaced_entry-text (32 ∷ []) e tail (past-space (entry_text e ++ tail) (grind (arith, nat_tests))) are.0 (behind_others es rest) in
    rw (append_assoc (entry_text e) (flat_map other_entry_text es) (93 ∷ rest))
    (repeat-goes (literal "," >> spaced entry) (44 ∷ 32 ∷ entry_text e ++ tail) e tail here (omega (arith, length-append (entry_text e) tail))
    ∙ ap (parsed_map (λ (others : List Entry). e ∷ others)) (more_entries es rest are.1))

begins-entries : (es : List Entry) (rest : List ℕ) → 0 < length es → AllByRecursion IsEntry es → begins is_place_start (entries_text es ++ rest) ≡ true
begins-entries [] rest some are = absurd (omega arith)
begins-entries (e ∷ es) rest some are = rw (append_assoc (entry_text e) (flat_map other_entry_text es) rest) (begins-entry e _ are.0)

entries-text : (es : List Entry) (rest : List ℕ) → 0 < length es → AllByRecursion IsEntry es → entries (91 ∷ entries_text es ++ 93 ∷ rest) ≡ Some (es, rest)
unfolding entries
entries-text [] rest some are = absurd (omega arith)
entries-text (e ∷ es) rest some are =
    let tail = flat_map other_entry_text es ++ 93 ∷ rest in
    let starts = begins-entry e tail are.0 in
    rw (append_assoc (entry_text e) (flat_map other_entry_text es) (93 ∷ rest))
    (rw (spaced_entry-text [] e tail (past-none is_space (entry_text e ++ tail) (grind (arith, nat_tests))) are.0 (behind_others es rest))
    (rw (more_entries es rest are.1) refl))

-- ---- levels

no_space-decimal : (n : ℕ) (rest : List ℕ) → nat_lt n 256 ≡ true → stops is_space (decimal n ++ rest) ≡ true
no_space-decimal n rest fits = let starts = begins-decimal n rest (omega (arith, (Decides-ltb n 256).0 fits)) in grind (arith, nat_tests)

nat8-text : (n : ℕ) (rest : List ℕ) → nat_lt n 256 ≡ true → stops is_ascii_digit rest ≡ true → nat8 (decimal n ++ rest) ≡ Some (n, rest)
nat8-text n rest fits h = natural_below-decimal 256 n rest (omega arith) fits h

levels-text : (l : Levels) (rest : List ℕ) → AreLevels (Some l) → levels (levels_text (Some l) ++ rest) ≡ Some (l, rest)
unfolding levels ws
levels-text l rest are = go l.end are.1 where
  go : (end : Option LevelEnd) → IsLevelEnd end →
      levels (levels_text (Some (record { start = l.start; end = end })) ++ rest) ≡ Some (record { start = l.start; end = end }, rest)
  go None is = simp (append_assoc, past-none is_space (decimal l.start ++ 125 ∷ rest) (no_space-decimal l.start _ are.0), nat8-text, are.0)
  go (Some (level n)) is = simp (append_assoc, past-none, no_space-decimal, nat8-text, past-space, are.0, is)
  go (Some last_level) is = simp (append_assoc, past-none, no_space-decimal, nat8-text, natural_below-none, are.0)

-- ---- steps

-- what may follow a step: another step, a space, or a parenthesis
abbrev pub is_step_end : ℕ → Bool
is_step_end b = b == 46 || b == 58 || b == 91 || b == 63 || b == 32 || b == 41

field-text : (text rest : List ℕ) → IsName text → front is_step_end rest ≡ true → field (name_text text ++ rest) ≡ Some (text, rest)
unfolding field
field-text text rest is h = go (is_plain_name text) refl where
  go : (t : Bool) → is_plain_name text ≡ t → field (name_text text ++ rest) ≡ Some (text, rest)
  go true plain =
      let starts = begins-plain text rest plain in
      rw (plain, quoted-none (text ++ rest) (grind (arith, nat_tests)), name-plain text rest plain is.1 (grind (arith, nat_tests))) refl
  go false plain = rw (plain, quoted-quoted_text text rest is.0 is.1) refl

no_star-name : (text rest : List ℕ) → begins (λ b. b == 42) (name_text text ++ rest) ≡ false
no_star-name text rest = grind (arith, begins-plain, nat_tests)

-- a point without a star after it
no_star : (input : List ℕ) → begins (λ b. b == 42) input ≡ false → wildcard (46 ∷ input) ≡ None
unfolding wildcard
no_star input h = grind (arith, nat_tests)

one_star : (input : List ℕ) → front is_step_end input ≡ true → wildcard (46 ∷ 42 ∷ input) ≡ Some (dot_wildcard, input)
unfolding wildcard
one_star input h = grind (arith, nat_tests)

-- a bracket without a star after it
no_star_in_brackets : (input : List ℕ) → stops is_space input ≡ true → begins (λ b. b == 42) input ≡ false → wildcard (91 ∷ input) ≡ None
unfolding wildcard ws
no_star_in_brackets input h e = rw (past-none is_space input h, literal-none 42 [] input e) refl

no_entry-quote : (rest : List ℕ) → entries (91 ∷ 34 ∷ rest) ≡ None
unfolding entries entry place ws
no_entry-quote rest = rw (integer_within-none (2 ^ 31) (34 ∷ rest) refl) refl

recursive-text : (l : Option Levels) (rest : List ℕ) → AreLevels l → front is_step_end rest ≡ true →
    wildcard (46 ∷ 42 ∷ 42 ∷ levels_text l ++ rest) ≡ Some (recursive_dot_wildcard l, rest)
unfolding wildcard levels
recursive-text l rest is h = grind (arith, nat_tests, literal-none, levels-text)

colon_is_no_wildcard : (rest : List ℕ) → wildcard (58 ∷ rest) ≡ None
unfolding wildcard
colon_is_no_wildcard rest = refl

brackets-text : (rest : List ℕ) → wildcard (codes "[*]" ++ rest) ≡ Some (bracket_wildcard, rest)
unfolding wildcard ws
brackets-text rest = refl

bracket_field-text : (text rest : List ℕ) → IsName text → bracket_field (91 ∷ quoted_text text ++ 93 ∷ rest) ≡ Some (object_field text, rest)
unfolding bracket_field ws
bracket_field-text text rest is = rw (quoted-quoted_text text (93 ∷ rest) is.0 is.1) refl

pub inner-text : (s : Step) (rest : List ℕ) → IsInner s → front is_step_end rest ≡ true → inner (step_text s ++ rest) ≡ Some (s, rest)
unfolding inner named_field
inner-text dot_wildcard rest is h = rw (one_star rest h) refl
inner-text (recursive_dot_wildcard l) rest is h = rw (recursive-text l rest is h) refl
inner-text bracket_wildcard rest is h = rw (brackets-text rest) refl
inner-text (dot_field text) rest is h = rw (no_star (name_text text ++ rest) (no_star-name text rest), field-text text rest is h) refl
inner-text (colon_field text) rest is h = rw (colon_is_no_wildcard (name_text text ++ rest), field-text text rest is h) refl
inner-text (object_field text) rest is h =
    rw (append_assoc (91 ∷ quoted_text text) (93 ∷ []) rest, no_star_in_brackets (quoted_text text ++ 93 ∷ rest) refl refl, no_entry-quote _)
    (rw (bracket_field-text text rest is) refl)
inner-text (array_indices es) rest is h =
    let starts = begins-entries es (93 ∷ rest) is.0 is.1 in
    rw (append_assoc (91 ∷ entries_text es) (93 ∷ []) rest)
    (rw (no_star_in_brackets (entries_text es ++ 93 ∷ rest) (grind (arith, nat_tests)) (grind (arith, nat_tests)), entries-text es rest is.0 is.1) refl)
inner-text _ rest is h = absurd is
