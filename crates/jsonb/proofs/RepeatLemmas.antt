-- What an expression makes of lists that differ in repeats alone.
use Rattle.jsonb.proofs.Common.{◌≡◌, ◌⊎◌, inl, inr, ℕ, ◌<◌, zero, suc, length, List, [], ◌∷◌, ◌++◌, map, flat_map, Bool, true, false, Some, None, Option, Ok, IsOkAnd, refl, sym, ap, subst, ◌∙◌, append_assoc, append-nil, arith, find, Contains, slice_index_or, AllZip, Outcome, and_then, Refines, IsOutOfMemory, kind_number, any, number_reader, Locates, spot_content, Tree, Spot, content_unique, steps_of, steps_view, Truth, compare, pair_truth, first_decisive, Value, step_meaning, steps_meaning, is_some, first_item, AreAlike, HasSame, AlikeOutcomes, SameOutcomes, items_truth, Mode, Lax, Repeats, MemberCompared}
use Rattle.jsonb.specs.PathTree as math
use Rattle.jsonb.specs.Private.Alike.{AreSame}
use Rattle.jsonb.specs.declared.selector.document.Repeats.TheVariants.{AreKept}
use Rattle.jsonb.proofs.AlikeLemmas.{alike_itself, alike_then, alike_flat_map, alike_each, alike_map, alike_results, alike_without}
use Rattle.jsonb.proofs.Progress.{First}
use Rattle.jsonb.proofs.RefinesLemmas.{answered, AllZip-append}

-- ---- the same lists

pub same_equal : {A : Type 0} (repeats : Repeats) {xs ys : List A} → xs ≡ ys → AreSame repeats xs ys
same_equal repeats is = grind arith

pub same_outcome_itself : {A : Type 0} (repeats : Repeats) (o : Outcome (List A)) → SameOutcomes repeats o o
same_outcome_itself repeats o = grind (arith, alike_itself)

pub same_outcomes_then : {A : Type 0} (repeats : Repeats) (a b c : Outcome (List A)) → SameOutcomes repeats a b → SameOutcomes repeats b c
    → SameOutcomes repeats a c
same_outcomes_then repeats a b c h g = grind (arith, alike_then)

-- ---- steps

alike_steps : (mode : Mode) (ss : math.Steps) (top : Tree) (us ts : List Tree) → AreAlike us ts
    → AlikeOutcomes (steps_meaning mode ss top us) (steps_meaning mode ss top ts)
alike_steps mode math.no_steps top us ts h = h
alike_steps mode (math.step s rest) top us ts h = grind (arith, alike_results (step_meaning mode s top) h, alike_steps mode rest top)

pub same_steps : (repeats : Repeats) (mode : Mode) (ss : math.Steps) (top : Tree) (us ts : List Tree) → AreSame repeats us ts
    → SameOutcomes repeats (steps_meaning mode ss top us) (steps_meaning mode ss top ts)
same_steps repeats mode ss top us ts is = grind (arith, alike_steps)

-- ---- what the results say of the whole

-- the list itself
pub same_found : (repeats : Repeats) (bytes : List ℕ) (spots : List Spot) (us : List Tree) (whole : Outcome (List Tree)) → AllZip (Locates bytes) spots us
    → SameOutcomes repeats (Ok us) whole → IsOkAnd whole (HasSame repeats bytes spots)
same_found repeats bytes spots us whole a same = grind arith

pub with_repeats : (repeats : Repeats) (bytes : List ℕ) (spots : List Spot) (whole : Outcome (List Tree)) → IsOkAnd whole (AllZip (Locates bytes) spots)
    → IsOkAnd whole (HasSame repeats bytes spots)
with_repeats repeats bytes spots whole a = grind (arith, same_equal)

pub exactly : (bytes : List ℕ) (spots : List Spot) (ts : List Tree) → HasSame AreKept bytes spots ts → AllZip (Locates bytes) spots ts
exactly bytes spots ts h = subst (AllZip (Locates bytes) spots) h.2 h.1

pub all_exactly : (bytes : List ℕ) (spots : List Spot) (whole : Outcome (List Tree)) → IsOkAnd whole (HasSame AreKept bytes spots)
    → IsOkAnd whole (AllZip (Locates bytes) spots)
all_exactly bytes spots whole h = grind (arith, exactly)

-- values of the list
pub same_values : {A B C : Type 0} {e : Outcome A} (repeats : Repeats) (view : A → List C) (f : B → List C) (us ts : List B) → AreSame repeats us ts
    → Refines (λ v vs. view v ≡ vs) IsOutOfMemory e (Ok (flat_map f us)) → Refines (λ v vs. AreSame repeats (view v) vs) IsOutOfMemory e (Ok (flat_map f ts))
same_values repeats view f us ts h k = grind (arith, answered, alike_flat_map)

-- ---- the first item

pub alike_first : (us ts : List Tree) → AreAlike us ts → first_item us ≡ first_item ts
alike_first us ts h = found us ∙ h.finds (λ t. true) ∙ sym (found ts)
  where
    found : (ts : List Tree) → first_item ts ≡ find (λ t. true) ts
    found [] = refl
    found (t ∷ ts) = refl

pub alike_some : (us ts : List Tree) → AreAlike us ts → is_some (first_item us) ≡ is_some (first_item ts)
alike_some us ts h = found us ∙ ap is_found (h.finds (λ t. true)) ∙ sym (found ts)
  where
    is_found : Option Tree → Bool
    is_found None = false
    is_found (Some t) = true

    found : (ts : List Tree) → is_some (first_item ts) ≡ is_found (find (λ t. true) ts)
    found [] = refl
    found (t ∷ ts) = refl

-- ---- comparisons

abbrev decides : Truth → Bool
decides (Some false) = false
decides _ = true

abbrev decided : Option Truth → Truth
decided None = Some false
decided (Some b) = b

first_decisive_found : (bs : List Truth) → first_decisive bs ≡ decided (find decides bs)
first_decisive_found [] = refl
first_decisive_found (b ∷ bs) = grind (arith, first_decisive_found bs)

pub alike_compare : (op : math.BinaryOp) {ls ms rs ss : List Value} → AreAlike ls ms → AreAlike rs ss → compare op ls rs ≡ compare op ms ss
alike_compare op {ls} {ms} {rs} {ss} left right =
    let pairs : AreAlike (flat_map (λ l. map (λ r. pair_truth op l r) rs) ls) (flat_map (λ l. map (λ r. pair_truth op l r) ss) ms) =
    alike_then (alike_flat_map (λ l. map (λ r. pair_truth op l r) rs) left)
    (alike_each (λ l. map (λ r. pair_truth op l r) rs) (λ l. map (λ r. pair_truth op l r) ss) ms (λ l. alike_map (λ r. pair_truth op l r) right)) in
    first_decisive_found (flat_map (λ l. map (λ r. pair_truth op l r) rs) ls) ∙ ap decided (pairs.finds decides)
    ∙ sym (first_decisive_found (flat_map (λ l. map (λ r. pair_truth op l r) ss) ms))

-- with the values of one side known
pub compared_right : (op : math.BinaryOp) (rs ls : List Value) (o : Outcome (List Value)) → IsOkAnd o (AreAlike rs)
    → and_then o (λ ss. Ok (compare op ls ss)) ≡ Ok (compare op ls rs)
compared_right op rs ls o h = grind (arith, alike_compare, alike_itself)

-- of members of the items
pub alike_items_truth : (c : MemberCompared) (top : Tree) (us ts : List Tree) → AreAlike us ts → items_truth c top us ≡ items_truth c top ts
alike_items_truth c top us ts h = grind (arith, alike_steps Lax (steps_of (steps_view c.names.now)) top us ts h, alike_compare, alike_flat_map, alike_itself)

-- ---- a list whose repeats are left out

-- one position is that of one tree
pub one_tree : (bytes : List ℕ) (spot : Spot) (t u : Tree) → Locates bytes spot t → Locates bytes spot u → t ≡ u
one_tree bytes spot t u h g = content_unique (number_reader any) t u (kind_number spot.kind) (spot_content bytes spot)
    (h.content any h.whole h.decodes) (g.content any h.whole h.decodes)

contained_tree : {A B : Type 0} (R : A → B → Type 0) → ((x : A) (t u : B) → R x t → R x u → t ≡ u) → (xs : List A) (us : List B) (x : A) (t : B) → AllZip R xs us
    → R x t → Contains xs x → Contains us t
contained_tree {A} {B} R one xs us x t a r has = let k = go xs us has.0 a has.1 has.2 in (has.0, k.0, k.1)
  where
    go : (xs : List A) (us : List B) (k : ℕ) → AllZip R xs us → k < length xs → slice_index_or xs k x ≡ x → (k < length us) × (slice_index_or us k t ≡ t)
    go [] us k a short is = absurd (omega arith)
    go (y ∷ xs) [] k a short is = absurd a
    go (y ∷ xs) (u ∷ us) zero a short is = (omega arith, one x u t (rw is at a.0) r)
    go (y ∷ xs) (u ∷ us) (suc k) a short is = let rest = go xs us k a.1 (omega arith) is in (omega (arith, rest.0), rest.1)

-- the first items so far and the items that are left are alike to the whole
pub record Thinned {A B : Type 0} (R : A → B → Type 0) (nodes others : List A) (ts : List B) : Type 0 where
  pub firsts : List B
  pub rest : List B
  pub done : AllZip R nodes firsts
  pub left : AllZip R others rest
  pub alike : AreAlike (firsts ++ rest) ts

pub thinned_start : {A B : Type 0} (R : A → B → Type 0) (nodes left : List A) (ts : List B) → nodes ≡ [] → AllZip R left ts → Thinned R nodes left ts
thinned_start R nodes left ts none a = record {
  firsts = [];
  rest = ts;
  done = subst (λ l. AllZip R l []) (sym none) tt;
  left = a;
  alike = alike_itself ts;
}

pub thinned_more : {A B : Type 0} (R : A → B → Type 0) → ((x : A) (t u : B) → R x t → R x u → t ≡ u) → (nodes nodes' left left' : List A) (x : A) (ts : List B)
    → Thinned R nodes left ts → ((rest : List B) → AllZip R left rest → First (AllZip R left') (R x) rest)
    → (nodes' ≡ nodes ++ x ∷ []) ⊎ ((nodes' ≡ nodes) × Contains nodes x) → Thinned R nodes' left' ts
thinned_more R one nodes nodes' left left' x ts thinned first next =
    let k = first thinned.rest thinned.left in
    let whole : AreAlike (thinned.firsts ++ k.first ∷ k.others) ts = rw k.whole at thinned.alike in
    elim next [
      | inl pushed ↦ record {
        firsts = thinned.firsts ++ k.first ∷ [];
        rest = k.others;
        done = rw (sym pushed) at (AllZip-append R nodes (x ∷ []) thinned.firsts (k.first ∷ []) thinned.done (k.holds, tt));
        left = k.left;
        alike = rw (sym (append_assoc thinned.firsts (k.first ∷ []) k.others)) at whole;
      }
      | inr known ↦ record {
        firsts = thinned.firsts;
        rest = k.others;
        done = rw (sym known.0) at thinned.done;
        left = k.left;
        alike = alike_then
            (alike_without thinned.firsts k.others k.first (contained_tree R one nodes thinned.firsts x k.first thinned.done k.holds known.1)) whole;
      }
    ]

pub thinned_end : {A B : Type 0} (R : A → B → Type 0) (nodes left : List A) (ts : List B) → Thinned R nodes left ts
    → ((rest : List B) → AllZip R left rest → rest ≡ []) → (us : List B) × AllZip R nodes us × AreAlike us ts
thinned_end R nodes left ts thinned none = (
  thinned.firsts,
  thinned.done,
  rw (ap (λ l. thinned.firsts ++ l) (none thinned.rest thinned.left) ∙ append-nil thinned.firsts) at thinned.alike,
)
