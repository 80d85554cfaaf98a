-- Values: their trees level by level, a map's entries next to the pairs that they are for, and values that are copied part by part.
use Rattle.jsonb_doc.proofs.Common.{◌≡◌, List, [], ◌∷◌, ◌++◌, String, Vec, BTreeMap, Global, Ordering, Less, Greater, string_bytes, string_cmp, nat_cmp, refl, ap, ◌∙◌, rules, nat_list_cmp_total, slice_cmp, AllByRecursion, IsStrictlySortedBy, keys_of, match_ordering, ordering_reverse, insert_entry, array, object, trees_of, pairs_of, insert_pair, tree_seen, trees_seen, members_seen, Number, Value, the_lemmas, arith, ℕ, ◌+◌, ◌*◌, Result, sym, append_assoc, reverse, IfOk, AllocError, map-append, reverse-append, Tree, insert_pairs, with_part, filled_tree, left_parts, Open, Filled, append-nil}
use Rattle.jsonb_doc.specs.Number as spec
use Rattle.jsonb_doc.specs.declared.value.Value.{Array, Object}

abbrev pub Entry : Type 0
Entry = String Global × Value

module _ (seen : Number → spec.Number) where
  pub tree_seen-Array : (v : Vec Value Global) → tree_seen seen (Array v) ≡ array (trees_of (trees_seen seen v.items))
  tree_seen-Array v = search (rules, the_lemmas)

  pub tree_seen-Object : (m : BTreeMap (String Global) Value) → tree_seen seen (Object m) ≡ object (pairs_of (members_seen seen m.entries))
  tree_seen-Object m = search (rules, the_lemmas)

  through : (o : Ordering) (a b c : List Entry)
      → members_seen seen (match_ordering o a b c) ≡ match_ordering o (members_seen seen a) (members_seen seen b) (members_seen seen c)
  through o a b c = grind arith

  pub members_seen-insert_entry : (es : List Entry) (k : String Global) (v : Value)
      → members_seen seen (insert_entry string_cmp es k v) ≡ insert_pair (string_bytes k) (tree_seen seen v) (members_seen seen es)
  members_seen-insert_entry [] k v = refl
  members_seen-insert_entry (e ∷ es) k v = through (string_cmp k e.0) _ _ _ ∙ rw (members_seen-insert_entry es k v)

  -- a key above the others is inserted last
  pub insert_last : (done : List Entry) (e : Entry) (more : List Entry) → IsStrictlySortedBy string_cmp (keys_of (done ++ e ∷ more))
      → insert_pair (string_bytes e.0) (tree_seen seen e.1) (members_seen seen done) ≡ members_seen seen (done ++ e ∷ [])
  unfolding IsStrictlySortedBy
  insert_last [] e more h = refl
  insert_last (first ∷ done) e more h =
      let above : slice_cmp nat_cmp (string_bytes e.0) (string_bytes first.0) ≡ Greater =
      nat_list_cmp_total.antisymm (string_bytes e.0) (string_bytes first.0) ∙ ap ordering_reverse (below_middle done h.0) in
      rw above (ap (λ ps. (string_bytes first.0, tree_seen seen first.1) ∷ ps) (insert_last done e more h.1))
    where
      below_middle : (es : List Entry) → AllByRecursion (λ y. string_cmp first.0 y ≡ Less) (keys_of (es ++ e ∷ more)) → string_cmp first.0 e.0 ≡ Less
      below_middle [] h = h.0
      below_middle (x ∷ es) h = below_middle es h.1

-- what these containers, the innermost first, have left to be copied
abbrev pub around_parts : List Open → ℕ
around_parts [] = 0
around_parts (o ∷ around) = 1 + 2 * left_parts o + around_parts around

module _ (seen : Number → spec.Number) where
  -- the tree with these containers around it, the innermost first
  abbrev pub tree_within : List Open → Tree → Tree
  tree_within [] t = t
  tree_within (o ∷ around) t = tree_within around (with_part seen o t)

  pub tree_within-with : (around around' : List Open) (o : Open) (t : Tree) → around' ≡ around ++ o ∷ []
      → tree_within (reverse around') t ≡ tree_within (reverse around) (with_part seen o t)
  tree_within-with around around' o t e = ap (λ (os : List Open). tree_within os t) (ap reverse e ∙ reverse-append around (o ∷ []))

  -- one value more is copied
  pub value_copied : (vs vs' : List Value) (v : Value) (t : Tree) (more : List Tree) → vs' ≡ vs ++ v ∷ [] → tree_seen seen v ≡ t
      → trees_seen seen vs' ++ more ≡ trees_seen seen vs ++ t ∷ more
  value_copied vs vs' v t more h e = grind (arith, map-append, append_assoc)

  -- one member more is copied
  pub member_copied : (es es' : List Entry) (name : String Global) (v : Value) (key : List ℕ) (t : Tree) → es' ≡ insert_entry string_cmp es name v
      → string_bytes name ≡ key → tree_seen seen v ≡ t → members_seen seen es' ≡ insert_pair key t (members_seen seen es)
  member_copied es es' name v key t is named same = ap (members_seen seen) is ∙ members_seen-insert_entry seen es name v ∙ rw (named, same) refl

  -- members in order are inserted in order
  pub copied_in_order : (done left : List Entry) → IsStrictlySortedBy string_cmp (keys_of (done ++ left))
      → insert_pairs (members_seen seen left) (members_seen seen done) ≡ members_seen seen (done ++ left)
  copied_in_order done [] rising = ap (members_seen seen) (sym (append-nil done))
  copied_in_order done (e ∷ left) rising = grind (arith, copied_in_order (done ++ e ∷ []) left, append_assoc, insert_last, string_cmp)

  -- what is filled to a tree is filled to the same one
  pub copies_same : (r : Result Filled AllocError) {t u : Tree} → IfOk r (λ filled. filled_tree seen filled ≡ t) → t ≡ u
      → IfOk r (λ filled. filled_tree seen filled ≡ u)
  copies_same r h e = grind arith
