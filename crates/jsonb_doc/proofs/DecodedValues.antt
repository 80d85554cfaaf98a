-- Iterators of a document, the values decoded from what they yielded, and containers that are filled with them part by part.
use Rattle.jsonb_doc.proofs.Common.{common_steps, ◌≡◌, ℕ, List, [], ◌∷◌, ◌++◌, Some, None, Result, Ok, String, Global, Less, Greater, string_bytes, string_cmp, nat_cmp, refl, ap, ◌∙◌, append_assoc, IfOk, Bor, insert_entry, ordering_reverse, slice_cmp, nat_list_cmp_total, map-append, Tree, Trees, no_trees, tree, Pairs, no_pairs, pair, elements, members, keys, trees_of, pairs_of, Form, AreKeys, IsBelowFirst, IsNormal, Stores, TakesEntry, HasEntriesLeft, HasPairEntriesLeft, TakesPairEntry, IsUtf8, number_reader, AreEntries, HasPairParts, Holds, ArrayParts, ObjectParts, StoredEntry, insert_pair, tree_seen, trees_seen, members_seen, KeepsNormal, SeesItem, Item, Error, Number, Value, arith, append-nil, suc, max, sym, subst, MatchResult, IsOkAnd, reverse, array, object, IsOutOfMemory, open_room, IsWhole, FillsTo, MakesWhole, Whole}
use Rattle.jsonb_doc.proofs.Basics.{innermost}
use Rattle.jsonb_doc.specs.Number as spec
use Rattle.jsonb_doc.proofs.ValueTrees.{Entry, members_seen-insert_entry}
use Rattle.jsonb_doc.proofs.TreeLists.{trees_of-elements, pairs_of-members}
use Rattle.jsonb_doc.specs.Private.Filling.{LeadsTo}
use Rattle.jsonb_doc.specs.declared.container.Container.TheVariants.{Array as ArrayOf, Object as ObjectOf}
use Rattle.jsonb_doc.specs.declared.cursor.Entries.{Entries}
use Rattle.jsonb_doc.specs.declared.cursor.PairEntries.{PairEntries}
use Rattle.jsonb_doc.specs.declared.value.decode.Open.{Open}
use Rattle.jsonb_doc.specs.declared.value.decode.Filled.{Filled}

-- ---- what a container holds, and an iterator yields

pub elements_held : (form : Form) (t : Tree) (p : ArrayParts) → Holds (number_reader form) t (ArrayOf p)
    → (ts : Trees) × (t ≡ array ts) × AreEntries (number_reader form) ts p.words.now p.contents.now
elements_held form t p h = grind arith

pub pairs_held : (form : Form) (t : Tree) (p : ObjectParts) → Holds (number_reader form) t (ObjectOf p)
    → (ps : Pairs) × (t ≡ object ps) × HasPairParts (number_reader form) ps p
pairs_held form t p h = grind arith

-- the entry stores the first of the remaining elements
pub record FirstElement (form : Form) (before : Trees) (x : StoredEntry) (after : Entries) : Type 0 where
  pub first : Tree
  pub others : Trees
  pub whole : before ≡ tree first others
  pub stores : Stores form x first
  pub left : HasEntriesLeft form after others

pub first_element : (form : Form) (before : Trees) (r : Result StoredEntry Error) (x : StoredEntry) (after : Entries) → r ≡ Ok x
    → TakesEntry form before (Some r) after → FirstElement form before x after
first_element form before r x after h e = grind arith

-- the key and the entry are the first of the remaining members
pub record FirstMember (form : Form) (before : Pairs) (x : Bor (List ℕ) × StoredEntry) (after : PairEntries) : Type 0 where
  pub value : Tree
  pub others : Pairs
  pub whole : before ≡ pair x.0.now value others
  pub stores : Stores form x.1 value
  pub left : HasPairEntriesLeft form after others

pub first_member : (form : Form) (before : Pairs) (r : Result (Bor (List ℕ) × StoredEntry) Error) (x : Bor (List ℕ) × StoredEntry) (after : PairEntries)
    → r ≡ Ok x → TakesPairEntry form before (Some r) after → FirstMember form before x after
first_member form before r x after h e = grind arith

pub no_member : (form : Form) (before : Pairs) (after : PairEntries) → TakesPairEntry form before None after → before ≡ no_pairs
no_member form before after h = grind arith

pub first_name : (ps : Pairs) (key : List ℕ) (t : Tree) (others : Pairs) → ps ≡ pair key t others → AreKeys (keys ps) → IsUtf8 key
first_name ps key t others is h = grind arith

-- ---- the views of the numbers of items

pub sees_normal : (seen : Number → spec.Number) → KeepsNormal seen → (r : Result Item Error) (x : Item) → r ≡ Ok x → IfOk r IsNormal → SeesItem seen x
sees_normal seen h r x e k = grind arith

-- ---- decoded values

module _ (seen : Number → spec.Number) where
  -- at first nothing is decoded
  pub elements_begin : (vs : List Value) (ts : Trees) → vs ≡ [] → trees_of (trees_seen seen vs ++ elements ts) ≡ ts
  elements_begin vs ts none = rw none (trees_of-elements ts)

  -- one more element is decoded
  pub elements_go_on : (vs vs' : List Value) (v : Value) (left others ts : Trees) (t : Tree) → trees_of (trees_seen seen vs ++ elements left) ≡ ts
      → left ≡ tree t others → vs' ≡ vs ++ v ∷ [] → tree_seen seen v ≡ t
      → trees_of (trees_seen seen vs' ++ elements others) ≡ ts
  elements_go_on vs vs' v left others ts t h e k f = grind (arith, map-append, append_assoc)

  -- at last all elements are decoded
  pub elements_end : (vs : List Value) (left ts : Trees) → trees_of (trees_seen seen vs ++ elements left) ≡ ts → left ≡ no_trees
      → trees_of (trees_seen seen vs) ≡ ts
  elements_end vs left ts h e = grind (arith, append-nil)

  pub members_begin : (es : List Entry) (ps : Pairs) → es ≡ [] → pairs_of (members_seen seen es ++ members ps) ≡ ps
  members_begin es ps none = rw none (pairs_of-members ps)

  pub members_end : (es : List Entry) (left ps : Pairs) → pairs_of (members_seen seen es ++ members left) ≡ ps → left ≡ no_pairs
      → pairs_of (members_seen seen es) ≡ ps
  members_end es left ps h e = grind (arith, append-nil)

  below_key : (low : List ℕ) (done : List (List ℕ × Tree)) (key : List ℕ) (t : Tree) (more : List (List ℕ × Tree))
      → IsBelowFirst low (keys (pairs_of (done ++ (key, t) ∷ more))) → AreKeys (keys (pairs_of (done ++ (key, t) ∷ more)))
      → slice_cmp nat_cmp low key ≡ Less
  below_key low [] key t more h rising = h
  below_key low (p ∷ done) key t more h rising = nat_list_cmp_total.trans low p.0 key h (below_key p.0 done key t more rising.1 rising.2)

  -- a key above the others is inserted last
  insert_behind : (done : List (List ℕ × Tree)) (key : List ℕ) (t : Tree) (more : List (List ℕ × Tree)) → AreKeys (keys (pairs_of (done ++ (key, t) ∷ more)))
      → insert_pair key t done ≡ done ++ (key, t) ∷ []
  insert_behind [] key t more rising = refl
  insert_behind (p ∷ done) key t more rising =
      let above : slice_cmp nat_cmp key p.0 ≡ Greater = nat_list_cmp_total.antisymm key p.0
      ∙ ap ordering_reverse (below_key p.0 done key t more rising.1 rising.2) in
      rw above (ap (λ ps. p ∷ ps) (insert_behind done key t more rising.2))

  pub members_go_on : (es es' : List Entry) (name : String Global) (v : Value) (key : List ℕ) (left others ps : Pairs) (t : Tree)
      → pairs_of (members_seen seen es ++ members left) ≡ ps → left ≡ pair key t others → AreKeys (keys ps)
      → es' ≡ insert_entry string_cmp es name v → string_bytes name ≡ key → tree_seen seen v ≡ t → pairs_of (members_seen seen es' ++ members others) ≡ ps
  members_go_on es es' name v key left others ps t h e k f g i = grind (arith, insert_behind, members_seen-insert_entry, append_assoc)

-- more than any part that these containers have left
abbrev pub widest : List Open → ℕ
widest [] = 0
widest (o ∷ around) = max (suc (open_room o)) (widest around)

-- one container more, as the innermost
pub widest_with : (around around' : List Open) (o : Open) → around' ≡ around ++ o ∷ [] → widest (reverse around') ≡ max (suc (open_room o))
    (widest (reverse around))
widest_with around around' o e = ap (λ (os : List Open). widest (reverse os)) e ∙ ap widest (innermost around o)

module _ (seen : Number → spec.Number) where
  -- the value that was missing is there
  pub array_goes_on : (vs vs' : List Value) (v : Value) (ts : Trees) (whole : Tree) → vs' ≡ vs ++ v ∷ []
      → array (trees_of (trees_seen seen vs ++ tree_seen seen v ∷ elements ts)) ≡ whole → array (trees_of (trees_seen seen vs' ++ elements ts)) ≡ whole
  array_goes_on vs vs' v ts whole is made = grind (arith, common_steps, elements_go_on)

  pub object_goes_on : (es es' : List Entry) (name : String Global) (v : Value) (ps : Pairs) (whole : Tree) → es' ≡ insert_entry string_cmp es name v
      → AreKeys (keys (pairs_of (members_seen seen es ++ (string_bytes name, tree_seen seen v) ∷ members ps)))
      → object (pairs_of (members_seen seen es ++ (string_bytes name, tree_seen seen v) ∷ members ps)) ≡ whole
      → AreKeys (keys (pairs_of (members_seen seen es' ++ members ps))) × (object (pairs_of (members_seen seen es' ++ members ps)) ≡ whole)
  object_goes_on es es' name v ps whole is rising made =
      let all = pairs_of (members_seen seen es ++ (string_bytes name, tree_seen seen v) ∷ members ps) in
      let same : pairs_of (members_seen seen es' ++ members ps) ≡ all =
      members_go_on seen es es' name v (string_bytes name) (pair (string_bytes name) (tree_seen seen v) ps) ps all (tree_seen seen v) refl refl rising is
      refl refl in
      (subst (λ (qs : Pairs). AreKeys (keys qs)) (sym same) rising, ap object same ∙ made)

  module _ (form : Form) where
    -- what is filled whole is the value
    pub whole_of : (filled : Filled) (r : Result Value Error) (t : Tree) → IsWhole filled → (IsWhole filled → IsOkAnd r (λ v. filled ≡ Whole v))
        → FillsTo seen form t filled → MatchResult r (λ v. tree_seen seen v ≡ t) IsOutOfMemory
    whole_of filled r t h e k = grind arith

    -- the innermost container is taken
    pub LeadsTo-popped : (around around' : List Open) (o : Open) (part whole : Tree) → around ≡ around' ++ o ∷ []
        → LeadsTo seen form (reverse around) part whole → (t : Tree) × MakesWhole seen form o part t × LeadsTo seen form (reverse around') t whole
    LeadsTo-popped around around' o part whole h e = grind (arith, innermost)
