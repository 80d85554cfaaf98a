-- Names as a set.
use Rattle.std.proofs.Common.{◌≡◌, ◌<◌, ◌+◌, length, drop, get_or, add-one, ◌||◌, not, inl, ℕ, Bool, true, false, cond, List, [], ◌∷◌, map, filter, Some, Result, Ok, Err, IsOkAnd, refl, ap, sym, ◌∙◌}
use Rattle.std.proofs.Math.Seq.{drop-cons}
use Rattle.std.specs.Borrow.{Bor}
use Rattle.std.specs.List.{list_any}
use Rattle.std.specs.Str.{bytes_eq}
use Rattle.std.specs.Ordering.{nat_cmp, is_eq}
use Rattle.std.specs.Cmp.Lexicographic.{slice_cmp}
use Rattle.std.proofs.lemmas.Map.Text.{is_eq-slice_cmp}
use Rattle.jsonb_doc.specs.Tree.{Tree, null, boolean, number, text, extension, array, object, members, pairs_of}
use Rattle.jsonb_raw.specs.Objects.{TextSet, is_in, object_delete, object_pick}
use Rattle.jsonb_c.specs.Names.{dropped_names, picked_names}
use Rattle.jsonb_c.specs.Answers.{With}
use Rattle.jsonb_c.specs.Private.NameColumns.{HasNames}
use Rattle.jsonb_c.specs.declared.status.Status.{Status}

-- the set and the names after are the names
abbrev pub Gathers : TextSet → List (Bor (List ℕ)) → List (Bor (List ℕ)) → Type 0
Gathers set left names = (q : List ℕ)
    → (is_in set q || list_any (λ name. bytes_eq name q) (map (λ n. n.now) left)) ≡ list_any (λ name. bytes_eq name q) (map (λ n. n.now) names)

moved : (a b r : Bool) → (cond b true a || r) ≡ (a || (b || r))
moved true true r = refl
moved true false r = refl
moved false true r = refl
moved false false r = refl

pub gathers_more : (old new : TextSet) (name : Bor (List ℕ)) (left others names : List (Bor (List ℕ))) → left ≡ name ∷ others
    → ((q : List ℕ) → is_in new q ≡ cond (is_eq (slice_cmp nat_cmp name.now q)) true (is_in old q))
    → Gathers old left names → Gathers new others names
gathers_more old new name left others names is added so_far q =
    let before = rw is at (so_far q) in
    let here : is_in new q ≡ cond (bytes_eq name.now q) true (is_in old q) = added q ∙ ap (λ b. cond b true (is_in old q)) (is_eq-slice_cmp name.now q) in
    rw here (moved (is_in old q) (bytes_eq name.now q) (list_any (λ n. bytes_eq n q) (map (λ n. n.now) others)) ∙ before)

pub gathers_step : (old new : TextSet) (names : List (Bor (List ℕ))) (i : ℕ) (d : Bor (List ℕ)) → i < length names
    → ((q : List ℕ) → is_in new q ≡ cond (is_eq (slice_cmp nat_cmp (get_or names i d).now q)) true (is_in old q))
    → Gathers old (drop i names) names → Gathers new (drop (i + 1) names) names
gathers_step old new names i d lt added so_far =
    gathers_more old new (get_or names i d) (drop i names) (drop (i + 1) names) names
    (drop-cons names i d lt ∙ ap (λ n. get_or names i d ∷ drop n names) (sym (add-one i))) added so_far

or_false : (b : Bool) → (b || false) ≡ b
or_false true = refl
or_false false = refl

pub gathers_all : (set : TextSet) (left names : List (Bor (List ℕ))) → left ≡ [] → Gathers set left names → HasNames set (map (λ n. n.now) names)
gathers_all set left names is so_far q = let all = rw is at (so_far q) in sym (or_false (is_in set q)) ∙ all

-- ---- objects

filter_same : {A : Type 0} (f g : A → Bool) → ((x : A) → f x ≡ g x) → (xs : List A) → filter f xs ≡ filter g xs
filter_same f g same [] = refl
filter_same f g same (x ∷ xs) = rw (same x, filter_same f g same xs) refl

pub picks_names : (set : TextSet) (names : List (List ℕ)) (t : Tree) → HasNames set names → object_pick set t ≡ picked_names names t
picks_names set names (object ps) has =
    ap (λ xs. Some (object (pairs_of xs))) (filter_same (λ p. is_in set p.0) (λ p. list_any (λ n. bytes_eq n p.0) names) (λ p. has p.0) (members ps))
picks_names set names null has = refl
picks_names set names (boolean b) has = refl
picks_names set names (number n) has = refl
picks_names set names (text s) has = refl
picks_names set names (extension x) has = refl
picks_names set names (array ts) has = refl

pub drops_names : (set : TextSet) (names : List (List ℕ)) (t : Tree) → HasNames set names → object_delete set t ≡ dropped_names names t
drops_names set names (object ps) has =
    ap (λ xs. Some (object (pairs_of xs)))
    (filter_same (λ p. not (is_in set p.0)) (λ p. not (list_any (λ n. bytes_eq n p.0) names)) (λ p. ap not (has p.0)) (members ps))
drops_names set names null has = refl
drops_names set names (boolean b) has = refl
drops_names set names (number n) has = refl
drops_names set names (text s) has = refl
drops_names set names (extension x) has = refl
drops_names set names (array ts) has = refl

-- ---- calls

-- what a call promises by the set that it read, and by what is wrong with the names
pub answered_by_set : (read : Result (List (List ℕ)) Status) (set : TextSet) (Answered : List (List ℕ) → Type 0) (IsRefused : Status → Type 0)
    → IsOkAnd read (HasNames set) → ((names : List (List ℕ)) → HasNames set names → Answered names) → With read Answered IsRefused
answered_by_set (Ok names) set Answered IsRefused has go = inl (go names has)
answered_by_set (Err cause) set Answered IsRefused has go = absurd has

pub read_as_set : (read : Result (List (List ℕ)) Status) (names : List (List ℕ)) (set : TextSet) → read ≡ Ok names
    → HasNames set names → IsOkAnd read (HasNames set)
read_as_set read names set is has = rw is has
