-- Lists whose elements are replaced one after the other, and the items of lists.
use Rattle.jsonb.proofs.Common.{◌≡◌, Vec, Global, take, take_all, drop_of_length-le, ⊤, ◌⊎◌, inl, inr, Option, Some, slice_get, same_Some, IfErr, IsSelectionError, IsOutOfMemory, column_at, AreSound, ℕ, zero, suc, ◌+◌, ◌<◌, ◌≤◌, ◌^◌, List, [], ◌∷◌, ◌++◌, length, drop, get_or, set, Ok, Err, refl, sym, ap, ◌∙◌, subst, arith, append-nil, drop-cons, add-one, AllZip, Outcome, and_then, try_flat_map, Error, Locates, Tree, Truth, Expression, truth, step_meaning, filter, Mode, NodeList, node_spots, IsList, IsTruth, AreFrom, AreLists, AreTruths, Column, flat}
use Rattle.std.specs.List.{AllByRecursion}
use Rattle.jsonb.proofs.ColumnLemmas.{all_as, each_from, from_append, from_at}
use Rattle.jsonb.proofs.KeptLemmas.{value_is}
use Rattle.jsonb.proofs.OnwardLemmas.{Said}
use Rattle.jsonb.specs.declared.selector.column.Column.TheVariants as column

-- the first i elements are made of those of the first list, and the others are these
abbrev pub MadeUntil : {A : Type 0} → (A → A → Type 0) → ℕ → List A → List A → Type 0
MadeUntil R zero xs ys = xs ≡ ys
MadeUntil R (suc i) [] [] = ⊤
MadeUntil R (suc i) (x ∷ xs) (y ∷ ys) = R x y × MadeUntil R i xs ys
MadeUntil R (suc i) xs ys = ⊥

made_next : {A : Type 0} (R : A → A → Type 0) (i : ℕ) (xs ys : List A) (d y : A) → i < length ys → MadeUntil R i xs ys → R (get_or ys i d) y
    → MadeUntil R (suc i) xs (set ys i y)
made_next R zero xs [] d y short h r = absurd (omega (arith, short))
made_next R zero xs (z ∷ zs) d y short h r = subst (λ l. MadeUntil R 1 l (y ∷ zs)) (sym h) (r, refl)
made_next R (suc i) xs [] d y short h r = absurd (omega (arith, short))
made_next R (suc i) [] (z ∷ zs) d y short h r = absurd h
made_next R (suc i) (x ∷ xs) (z ∷ zs) d y short h r = (h.0, made_next R i xs zs d y (omega (arith, short)) h.1 r)

pub made_more : {A : Type 0} (R : A → A → Type 0) (i : ℕ) (xs ys : List A) (d y : A) → i < length ys → MadeUntil R i xs ys → R (get_or ys i d) y
    → MadeUntil R (i + 1) xs (set ys i y)
made_more R i xs ys d y short h r = subst (λ n. MadeUntil R n xs (set ys i y)) (sym (add-one i)) (made_next R i xs ys d y short h r)

pub made_end : {A : Type 0} (R : A → A → Type 0) (i : ℕ) (xs ys : List A) → length ys ≤ i → MadeUntil R i xs ys → AllZip R xs ys
made_end R zero xs [] short h = subst (λ l. AllZip R l []) (sym h) tt
made_end R zero xs (y ∷ ys) short h = absurd (omega (arith, short))
made_end R (suc i) [] [] short h = tt
made_end R (suc i) (x ∷ xs) (y ∷ ys) short h = (h.0, made_end R i xs ys (omega (arith, short)) h.1)
made_end R (suc i) _ _ short h = absurd h

-- the elements of a `Vec` after all of them are written
pub written : {A : Type 0} (v : Vec A Global) (ws : List A) → length ws ≡ length v.items → take v.len (ws ++ drop (length ws) v.items) ≡ ws
written v ws same =
    let none : drop (length ws) v.items ≡ [] = drop_of_length-le v.items (omega (arith, same)) in
    ap (λ l. take v.len (ws ++ l)) none ∙ ap (λ l. take v.len l) (append-nil ws) ∙ take_all v.len ws (omega (arith, same, v.ok.0))

-- what follows is unchanged
pub left_after : {A : Type 0} (i : ℕ) (ys : List A) (y : A) → drop (i + 1) (set ys i y) ≡ drop (i + 1) ys
left_after i ys y = ap (λ n. drop n (set ys i y)) (add-one i) ∙ go i ys ∙ ap (λ n. drop n ys) (sym (add-one i))
  where
    go : (i : ℕ) (ys : List _) → drop (suc i) (set ys i y) ≡ drop (suc i) ys
    go zero [] = refl
    go zero (z ∷ zs) = refl
    go (suc i) [] = refl
    go (suc i) (z ∷ zs) = go i zs

-- ---- the items of lists

pub flat_first : (x : Outcome NodeList) (xs : List (Outcome NodeList)) → flat (x ∷ xs) ≡ flat (x ∷ []) ++ flat xs
flat_first (Ok items) xs = ap (λ l. l ++ flat xs) (sym (append-nil (node_spots items)))
flat_first (Err e) xs = refl

pub flat_at : (lists : List (Outcome NodeList)) (i : ℕ) (d : Outcome NodeList) → i < length lists
    → flat (drop i lists) ≡ flat (get_or lists i d ∷ []) ++ flat (drop (i + 1) lists)
flat_at lists i d short = ap flat (drop-cons lists i d short) ∙ flat_first (get_or lists i d) (drop (suc i) lists)
    ∙ ap (λ n. flat (get_or lists i d ∷ []) ++ flat (drop n lists)) (sym (add-one i))

-- the trees of two parts
pub zip_split : {A B : Type 0} (R : A → B → Type 0) (xs ys : List A) (ts : List B) → AllZip R (xs ++ ys) ts
    → (us : List B) × (vs : List B) × (ts ≡ us ++ vs) × AllZip R xs us × AllZip R ys vs × (length us ≡ length xs)
zip_split R [] ys ts a = ([], ts, refl, tt, a, refl)
zip_split R (x ∷ xs) ys [] a = absurd a
zip_split R (x ∷ xs) ys (t ∷ ts) a =
    let k = zip_split R xs ys ts a.1 in (t ∷ k.0, k.1, ap (λ l. t ∷ l) k.2, (a.0, k.3), k.4, omega (arith, k.5))

-- ---- a filter of lists, by the results of all their items

module _ (bytes : List ℕ) (mode : Mode) (e : Expression) (top : Tree) (truths : Column (Outcome Truth)) where
  -- the filter's list of this one
  abbrev pub IsFiltered : Outcome NodeList → Outcome NodeList → Type 0
  IsFiltered x y = (o : Outcome (List Tree)) → IsList bytes x o → IsList bytes y (and_then o (try_flat_map (step_meaning mode (filter e) top)))

  -- that many lists are filtered, and the results of the items of the others begin at this index
  abbrev pub FilteredUntil : ℕ → ℕ → List (Outcome NodeList) → List (Outcome NodeList) → Type 0
  FilteredUntil i start xs ys = MadeUntil IsFiltered i xs ys
      × ((rest : List Tree) × AllZip (Locates bytes) (flat (drop i ys)) rest × AreFrom (Said (truth mode e top)) truths start rest)

  pub filtered_more : (i start next : ℕ) (xs ys : List (Outcome NodeList)) (d y : Outcome NodeList) → i < length ys
      → (start + length (flat (get_or ys i d ∷ [])) < 2 ^ 64 → next ≡ start + length (flat (get_or ys i d ∷ []))) → FilteredUntil i start xs ys
      → ((o : Outcome (List Tree)) (ts : List Tree) → IsList bytes (get_or ys i d) o → AllZip (Locates bytes) (flat (get_or ys i d ∷ [])) ts
      → AreFrom (Said (truth mode e top)) truths start ts → IsList bytes y (and_then o (try_flat_map (step_meaning mode (filter e) top))))
      → FilteredUntil (i + 1) next xs (set ys i y)
  filtered_more i start next xs ys d y short follows h kept =
      let x = get_or ys i d in
      let k = zip_split (Locates bytes) (flat (x ∷ [])) (flat (drop (i + 1) ys)) h.1.0
      (subst (λ l. AllZip (Locates bytes) l h.1.0) (flat_at ys i d short) h.1.1) in
      let from = from_append (Said (truth mode e top)) truths start k.0 k.1 (subst (λ l. AreFrom (Said (truth mode e top)) truths start l) k.2 h.1.2) in
      let goes : length k.0 + start < 2 ^ 64 → next ≡ length k.0 + start = λ less.
      let more : start + length (flat (x ∷ [])) < 2 ^ 64 = omega (arith, less, k.5) in omega (arith, follows more, k.5) in (
        made_more IsFiltered i xs ys d y short h.0 (λ o at. kept o k.0 at k.3 from.0),
        (
          k.1,
          subst (λ l. AllZip (Locates bytes) (flat l) k.1) (sym (left_after i ys y)) k.4,
          from_at (Said (truth mode e top)) truths (length k.0 + start) next k.1 goes from.1,
        ),
      )

  -- the filter of one list for all items
  pub filtered_same : (x y : Outcome NodeList) (g : Tree → Outcome (List Tree)) (us ts : List Tree) → AreLists bytes g us (column.Same x)
      → AllZip (Locates bytes) (flat (x ∷ [])) ts → AreTruths (truth mode e top) ts truths
      → ((o : Outcome (List Tree)) (vs : List Tree) → IsList bytes x o → AllZip (Locates bytes) (flat (x ∷ [])) vs
      → AreFrom (Said (truth mode e top)) truths 0 vs → IsList bytes y (and_then o (try_flat_map (step_meaning mode (filter e) top))))
      → AreLists bytes (λ u. and_then (g u) (try_flat_map (step_meaning mode (filter e) top))) us (column.Same y)
  filtered_same x y g [] ts lists at from kept = absurd lists
  filtered_same x y g (u ∷ us) ts lists at from kept =
      all_as (λ t h. kept (g t) ts h at (each_from (Said (truth mode e top)) truths ts from)) (u ∷ us) lists

-- ---- what holds of each list

pub all_set : {A : Type 0} (P : A → Type 0) (i : ℕ) (ys : List A) (y : A) → AllByRecursion P ys → P y → AllByRecursion P (set ys i y)
all_set P zero [] y a p = a
all_set P zero (z ∷ zs) y a p = (p, a.1)
all_set P (suc i) [] y a p = a
all_set P (suc i) (z ∷ zs) y a p = (a.0, all_set P i zs y a.1 p)

pub all_at : {A : Type 0} (P : A → Type 0) (i : ℕ) (ys : List A) (d : A) → i < length ys → AllByRecursion P ys → P (get_or ys i d)
all_at P i [] d short a = absurd (omega (arith, short))
all_at P zero (z ∷ zs) d short a = a.0
all_at P (suc i) (z ∷ zs) d short a = all_at P i zs d (omega (arith, short)) a.1

-- ---- the truth at an index

at_all : {A : Type 0} (P : A → Type 0) (xs : List A) (i : ℕ) (x : A) → AllByRecursion P xs → slice_get xs i ≡ Some x → P x
at_all P [] i x a is = absurd (grind (arith, is))
at_all P (y ∷ ys) zero x a is = subst P (same_Some _ _ is) a.0
at_all P (y ∷ ys) (suc i) x a is = at_all P ys i x a.1 is

pub sound_at : (mode : Mode) (truths : Column (Outcome Truth)) (index : ℕ) (x : Outcome Truth) → AreSound mode truths → column_at truths index ≡ Some x
    → IfErr x (IsSelectionError mode)
sound_at mode (column.Same y) index x a is = subst (λ z. IfErr z (IsSelectionError mode)) (same_Some _ _ is) a.0
sound_at mode (column.Each v) index x a is = at_all (λ z. IfErr z (IsSelectionError mode)) v.items index x a is

pub said_known : (at : Option (Outcome Truth)) (x said : Outcome Truth) (b : Truth) (o : Outcome Truth) → at ≡ Some x → x ≡ Ok b → at ≡ Some said
    → IsTruth said o → o ≡ Ok b
said_known at x said b o p q r h = value_is (subst (λ s. IsTruth s o) (sym (same_Some _ _ (sym p ∙ r)) ∙ q) h).ok

pub said_failed : (at : Option (Outcome Truth)) (x said : Outcome Truth) (e : Error) (o : Outcome Truth) (g : Truth → Outcome (List Tree)) → at ≡ Some x
    → x ≡ Err e → at ≡ Some said → IsTruth said o → IsOutOfMemory e ⊎ (and_then o g ≡ Err e)
said_failed at x said e o g p q r h =
    let failed : IsTruth (Err e) o = subst (λ s. IsTruth s o) (sym (same_Some _ _ (sym p ∙ r)) ∙ q) h in
    elim failed.err [
      | inl memory ↦ inl memory
      | inr is ↦ inr (ap (λ r. and_then r g) is)
    ]
