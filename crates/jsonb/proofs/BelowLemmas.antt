-- A walk over the items below an item: what is given, and then what each level has left, the innermost first, is the
-- whole.
use Rattle.jsonb.proofs.Common.{◌≡◌, ℕ, ◌+◌, ◌^◌, ◌<◌, ◌≤◌, min, List, [], ◌∷◌, ◌++◌, flat_map, Option, Some, None, inl, inr, refl, sym, ap, subst, ◌∙◌, arith, append_assoc, append-nil, reverse, flat_map-append, Locates, HasSpotsLeft, spots_room, spots_bound, Tree, weight_of, weight-pos, inner_weighs, taken_weighs, weight_of_all, falls_inward, falls_outward, Spot, SpotIter, Levels, taken_item, preorder, AllZip, KeepsLevel, PassesLeaves, OpenLevel}
use Rattle.jsonb.specs.Private.Below.{HasLeft}
pub use Rattle.jsonb_doc.proofs.Basics.{innermost, empty_of as no_levels}
use Rattle.jsonb.proofs.Progress.{First}

-- ---- what is left at levels, the innermost first

-- the items that are left at a level
abbrev pub Rest : Type 0
Rest = List Tree × ℕ

abbrev pub items_of : Option Levels → List Rest → List Tree
items_of levels [] = []
items_of levels (r ∷ rs) = flat_map (preorder levels r.1) r.0 ++ items_of levels rs

abbrev pub HaveLeft : List ℕ → List OpenLevel → List Rest → Type 0
HaveLeft bytes [] [] = Unit {0}
HaveLeft bytes (within ∷ os) (r ∷ rs) = HasLeft bytes within r.0 r.1 × HaveLeft bytes os rs
HaveLeft bytes _ _ = ⊥

-- Holds if what is given, and what is left at the innermost level, which has this depth, and at those around it, which
-- a `Vec` holds with the innermost last, is the whole.
pub record Walking (bytes : List ℕ) (levels : Option Levels) (Left : List Tree → Type 0) (depth : ℕ) (around : List OpenLevel) (nodes : List Spot)
    (whole : List Tree) : Type 0 where
  pub here : List Tree
  pub level : ℕ
  pub others : List Rest
  pub given : List Tree
  pub left : Left here
  pub deep : depth ≡ min level 256
  pub left_around : HaveLeft bytes (reverse around) others
  pub done : AllZip (Locates bytes) nodes given
  pub is : given ++ (flat_map (preorder levels level) here ++ items_of levels others) ≡ whole

abbrev pub Walked : List ℕ → Option Levels → OpenLevel → List OpenLevel → List Spot → List Tree → Type 0
Walked bytes levels within around nodes whole = Walking bytes levels (HasSpotsLeft bytes within.children) within.level around nodes whole

-- what is known of each item at a place, of the one that comes next
pub told_first : {Others : List Tree → Type 0} {P Q : Tree → Type 0} {rest : List Tree} → First Others P rest → ((t : Tree) → P t → Q t) → First Others Q rest
told_first f tell = record { first = f.first; others = f.others; whole = f.whole; holds = tell f.first f.holds; left = f.left }

module _ (bytes : List ℕ) (levels : Option Levels) where
  -- a part of a whole, put together another way
  regrouped : (given own rest others : List Tree) → (given ++ own) ++ (rest ++ others) ≡ given ++ ((own ++ rest) ++ others)
  regrouped given own rest others = append_assoc given own (rest ++ others) ∙ ap (λ l. given ++ l) (sym (append_assoc own rest others))

  -- the first item is looked at
  pub walk_begun : (within : OpenLevel) (around : List OpenLevel) (nodes : List Spot) (before ts : List Tree) (n : ℕ) (t : Tree) → around ≡ []
      → AllZip (Locates bytes) nodes (before ++ taken_item levels n t) → HasLeft bytes within ts (n + 1)
      → preorder levels n t ≡ taken_item levels n t ++ flat_map (preorder levels (n + 1)) ts
      → Walked bytes levels within around nodes (before ++ preorder levels n t)
  walk_begun within around nodes before ts n t none done left is = record {
    here = ts;
    level = n + 1;
    others = [];
    given = before ++ taken_item levels n t;
    left = left.0;
    deep = left.1;
    left_around = subst (λ l. HaveLeft bytes (reverse l) []) (sym none) tt;
    done = done;
    is = regrouped before (taken_item levels n t) (flat_map (preorder levels (n + 1)) ts) [] ∙ ap (λ l. before ++ l) (append-nil _ ∙ sym is);
  }

  -- items that have no children are passed
  pub leaves_passed : (within : OpenLevel) (around : List OpenLevel) (nodes nodes' : List Spot) (whole : List Tree) (spot : Spot) (others : SpotIter)
      (w : Walked bytes levels within around nodes whole) → PassesLeaves bytes levels w.level w.here w.given nodes' (Some (spot, others))
      → Walking bytes levels (First (HasSpotsLeft bytes others) (Locates bytes spot)) within.level around nodes' whole
  leaves_passed within around nodes nodes' whole spot others w (passed, t, rest, split, holds, left, done) = record {
    here = t ∷ rest;
    level = w.level;
    others = w.others;
    given = w.given ++ flat_map (preorder levels w.level) passed;
    left = record { first = t; others = rest; whole = refl; holds = holds; left = left };
    deep = w.deep;
    left_around = w.left_around;
    done = done;
    is = grind (arith, append_assoc, flat_map-append);
  }

  -- and all are
  pub all_passed : (within : OpenLevel) (around : List OpenLevel) (nodes nodes' : List Spot) (whole : List Tree)
      (w : Walked bytes levels within around nodes whole) → PassesLeaves bytes levels w.level w.here w.given nodes' None
      → Walking bytes levels (λ ts. ts ≡ []) within.level around nodes' whole
  all_passed within around nodes nodes' whole w done = record {
    here = [];
    level = w.level;
    others = w.others;
    given = w.given ++ flat_map (preorder levels w.level) w.here;
    left = refl;
    deep = w.deep;
    left_around = w.left_around;
    done = done;
    is = append_assoc w.given (flat_map (preorder levels w.level) w.here) (items_of levels w.others) ∙ w.is;
  }

  -- an item whose children are not looked at, or that has none
  pub item_passed : {Left : List Tree → Type 0} {depth : ℕ} (within' : OpenLevel) (around : List OpenLevel) (nodes nodes' : List Spot) (whole : List Tree)
      (w : Walking bytes levels Left depth around nodes whole)
      (f : First (HasSpotsLeft bytes within'.children) (λ t. (before : List Tree) → AllZip (Locates bytes) nodes before
      → AllZip (Locates bytes) nodes' (before ++ taken_item levels w.level t) × (preorder levels w.level t ≡ taken_item levels w.level t)) w.here)
      → within'.level ≡ depth → Walked bytes levels within' around nodes' whole
  item_passed within' around nodes nodes' whole w f same =
      let told = f.holds w.given w.done in record {
        here = f.others;
        level = w.level;
        others = w.others;
        given = w.given ++ taken_item levels w.level f.first;
        left = f.left;
        deep = same ∙ w.deep;
        left_around = w.left_around;
        done = told.0;
        is = grind (arith, regrouped);
      }

  -- an item whose children come next
  pub item_entered : {Left : List Tree → Type 0} {depth : ℕ} (within' inner : OpenLevel) (around around' : List OpenLevel) (nodes nodes' : List Spot)
      (whole : List Tree) (w : Walking bytes levels Left depth around nodes whole)
      (f : First (HasSpotsLeft bytes within'.children) (λ t. (before : List Tree) → AllZip (Locates bytes) nodes before
      → AllZip (Locates bytes) nodes' (before ++ taken_item levels w.level t) × ((ts : List Tree) × HasLeft bytes inner ts (w.level + 1)
      × (preorder levels w.level t ≡ taken_item levels w.level t ++ flat_map (preorder levels (w.level + 1)) ts))) w.here)
      → within'.level ≡ depth → KeepsLevel around within' around' → Walked bytes levels inner around' nodes' whole
  item_entered within' inner around around' nodes nodes' whole w f same kept =
      let told = f.holds w.given w.done in
      let ts = told.1.0 in
      let below = flat_map (preorder levels (w.level + 1)) ts in
      let mine = taken_item levels w.level f.first in
      let beside = flat_map (preorder levels w.level) f.others in
      let outside = items_of levels w.others in
      elim kept [
        | inl pushed ↦ record {
          here = ts;
          level = w.level + 1;
          others = (f.others, w.level) ∷ w.others;
          given = w.given ++ mine;
          left = told.1.1.0;
          deep = told.1.1.1;
          left_around = subst (λ l. HaveLeft bytes l ((f.others, w.level) ∷ w.others)) (sym (ap reverse pushed ∙ innermost around within'))
              ((f.left, same ∙ w.deep), w.left_around);
          done = told.0;
          is = regrouped w.given mine below (beside ++ outside)
              ∙ ap (λ l. w.given ++ (l ++ (beside ++ outside))) (sym told.1.2)
              ∙ ap (λ l. w.given ++ l) (sym (append_assoc (preorder levels w.level f.first) beside outside))
              ∙ ap (λ l. w.given ++ (flat_map (preorder levels w.level) l ++ outside)) (sym f.whole)
              ∙ w.is;
        }
        | inr done ↦ record {
          here = ts;
          level = w.level + 1;
          others = w.others;
          given = w.given ++ mine;
          left = told.1.1.0;
          deep = told.1.1.1;
          left_around = rw (sym done.0) at w.left_around;
          done = told.0;
          is = regrouped w.given mine below outside
              ∙ ap (λ l. w.given ++ (l ++ outside)) (sym told.1.2)
              ∙ ap (λ l. w.given ++ (l ++ outside)) (sym (append-nil (preorder levels w.level f.first)))
              ∙ ap (λ l. w.given ++ (flat_map (preorder levels w.level) (f.first ∷ l) ++ outside)) (sym (done.1 bytes f.others f.left))
              ∙ ap (λ l. w.given ++ (flat_map (preorder levels w.level) l ++ outside)) (sym f.whole)
              ∙ w.is;
        }
      ]

  pub level_done : {depth : ℕ} (outer : OpenLevel) (around around' : List OpenLevel) (nodes : List Spot) (whole : List Tree)
      (w : Walking bytes levels (λ ts. ts ≡ []) depth around nodes whole)
      → around ≡ around' ++ outer ∷ [] → Walked bytes levels outer around' nodes whole
  level_done outer around around' nodes whole w e = go w.others (rw (ap reverse e ∙ innermost around' outer) at w.left_around)
      (ap (λ l. w.given ++ (flat_map (preorder levels w.level) l ++ items_of levels w.others)) (sym w.left) ∙ w.is)
    where
      go : (rs : List Rest) → HaveLeft bytes (outer ∷ reverse around') rs → w.given ++ items_of levels rs ≡ whole
          → Walked bytes levels outer around' nodes whole
      go [] h is = absurd h
      go (r ∷ rs) h is = record { here = r.0; level = r.1; others = rs; given = w.given; left = h.0.0; deep = h.0.1; left_around = h.1; done = w.done; is = is }

  -- all are done
  pub walk_done : {depth : ℕ} (around : List OpenLevel) (nodes : List Spot) (whole : List Tree)
      (w : Walking bytes levels (λ ts. ts ≡ []) depth around nodes whole) → around ≡ [] → AllZip (Locates bytes) nodes whole
  walk_done around nodes whole w e = grind (arith, append-nil)

-- ---- items without children, one after the other

-- these are passed, and others are left
pub record PassedSo (bytes : List ℕ) (levels : Option Levels) (n : ℕ) (Left : List Tree → Type 0) (ts before : List Tree) (nodes : List Spot) : Type 0 where
  pub passed : List Tree
  pub rest : List Tree
  pub split : ts ≡ passed ++ rest
  pub left : Left rest
  pub done : AllZip (Locates bytes) nodes (before ++ flat_map (preorder levels n) passed)

module _ (bytes : List ℕ) (levels : Option Levels) (n : ℕ) (ts before : List Tree) where
  pub none_passed : (Left : List Tree → Type 0) (nodes : List Spot) → Left ts → AllZip (Locates bytes) nodes before
      → PassedSo bytes levels n Left ts before nodes
  none_passed Left nodes left done = record {
    passed = [];
    rest = ts;
    split = refl;
    left = left;
    done = subst (AllZip (Locates bytes) nodes) (sym (append-nil before)) done;
  }

  -- one more
  pub leaf_passed : (Left Left' : List Tree → Type 0) (spot : Spot) (nodes nodes' : List Spot) (w : PassedSo bytes levels n Left ts before nodes)
      (f : First Left' (Locates bytes spot) w.rest)
      → ((given : List Tree) → AllZip (Locates bytes) nodes given → AllZip (Locates bytes) nodes' (given ++ preorder levels n f.first))
      → PassedSo bytes levels n Left' ts before nodes'
  leaf_passed Left Left' spot nodes nodes' w f push = record {
    passed = w.passed ++ f.first ∷ [];
    rest = f.others;
    split = w.split ∙ ap (λ l. w.passed ++ l) f.whole ∙ sym (append_assoc w.passed (f.first ∷ []) f.others);
    left = f.left;
    done = grind (arith, append_assoc, append-nil, flat_map-append);
  }

  -- the next may have children
  pub next_left : (Left : List Tree → Type 0) (spot : Spot) (others : SpotIter) (nodes : List Spot) (w : PassedSo bytes levels n Left ts before nodes)
      → First (HasSpotsLeft bytes others) (Locates bytes spot) w.rest → PassesLeaves bytes levels n ts before nodes (Some (spot, others))
  next_left Left spot others nodes w f = grind arith

  -- none is left
  pub none_left : (Left : List Tree → Type 0) (nodes : List Spot) (w : PassedSo bytes levels n Left ts before nodes) → w.rest ≡ []
      → PassesLeaves bytes levels n ts before nodes None
  none_left Left nodes w none = rw (sym (w.split ∙ ap (λ l. w.passed ++ l) none ∙ append-nil w.passed)) at w.done

-- ---- how the levels shrink

unfoldable pub weight : OpenLevel → ℕ
weight within = weight_of (spots_bound within.children) (spots_room within.children)

abbrev pub weights : List OpenLevel → ℕ
weights os = weight_of_all weight os

-- the measure of a walk decreases if an item is entered, if it is passed, and if a level is done
pub falls_within : (within within' inner : OpenLevel) (around around' : List OpenLevel) (size : ℕ) → size ≤ spots_room within.children
    → spots_room within'.children ≤ spots_room within.children → spots_bound within'.children < spots_bound within.children
    → spots_room inner.children < size → spots_bound inner.children < 2 ^ 64 → KeepsLevel around within' around'
    → weight inner + weights (reverse around') < weight within + weights (reverse around)
unfolding weight
falls_within within within' inner around around' size sized less fewer room bound kept =
    let light : weight inner + weight within' < weight within = inner_weighs _ _ _ _ _ _ fewer less (omega (arith, sized, room)) bound in
    elim kept [
      | inl pushed ↦ falls_inward weight within within' inner around around' light pushed
      | inr done ↦ let is = ap (λ os. weights (reverse os)) done.0 in omega (arith, is, light)
    ]

pub falls_beside : (within within' : OpenLevel) (around : List OpenLevel) → spots_room within'.children ≤ spots_room within.children
    → spots_bound within'.children < spots_bound within.children
    → weight within' + weights (reverse around) < weight within + weights (reverse around)
unfolding weight
falls_beside within within' around less fewer = let light = taken_weighs _ _ _ _ fewer less in omega (arith, light)

pub falls_done : (within outer : OpenLevel) (around around' : List OpenLevel) → around ≡ around' ++ outer ∷ []
    → weight outer + weights (reverse around') < weight within + weights (reverse around)
unfolding weight
falls_done within outer around around' e =
    falls_outward weight within outer around around' (weight-pos (spots_bound within.children) (spots_room within.children)) e
