-- The keys of trees rank as the trees do; laws of sortable, composite and equality keys.
use Rattle.jsonb_raw.proofs.Common.{◌≡◌, ℕ, suc, ◌%◌, ◌^◌, ◌<◌, List, [], ◌∷◌, ◌++◌, length, refl, sym, ap, ap₂, ◌∙◌, arith, nat_cmp, Bool, Ordering, Equal, append_assoc, mod-eq_of_lt, ◌↔◌, inl, Less, append-nil, flat_map, Option, None, Some, IfSome, Greater, IsTrue, bytes_high_first, Width, byte_len, nat_cmp-equal, then_Equal, extension_back, some_injective, canonical, extension_payload, Form, extension_of, Fits, IsShort, HasShortParts, HasShortElements, HasShortValues, IsInRange, AreInRange, ValuesAreInRange, Tree, Trees, Pairs, count, keys, Number, FitsNumber, number_cmp, rank, tree_cmp, IsEqual, AreEqual, PairsAreEqual, number_bytes, text_bytes, sortable_key, depths, HasKey, IsRest, item_bytes, equality_key, equality_keys_of_trees, equality_keys_of_pairs, both_equal, bytes_cmp, same_from_bytes_cmp, bytes_cmp_refl, ordering_then, equal_from_tree_cmp, tree_cmp-equal, AreBytes, Decodes, decoded_fits, deepest, HasNoExtension, is_equal, equal_from_test, is_equal-true, slice_cmp, option_cmp, one-le-pow, column_key, HaveKeys, ◌≢◌, ◌+◌, ◌≤◌, false, inr, to_be_bytes, cases_order, nat_cmp_refl, then_assoc, deepest_of_trees, deepest_of_pairs, trees_cmp, pairs_cmp, keys_of_trees, keys_of_pairs, pos, not, AllByRecursion, values_of, array, object, tree, pair, Key, index, unquoted_name, Leaf, leaves_at, leaves, leaves_of_trees, leaves_of_pairs, behind, is_extension_value}
use Rattle.jsonb_raw.proofs.NumberKeys.{Ranks, Ranks-bytes_high_first, Ranks-text_bytes, Ranks-number_bytes, bounded_from_fits, ranks_alone}

abbrev IsOther : Tree → Type 0
IsOther t = IsTrue (not (is_extension_value t))

abbrev AreOthers : List Leaf → Type 0
AreOthers found = AllByRecursion IsOther (values_of found)

parts_of : (xs ys : List Leaf) → AreOthers (xs ++ ys) → AreOthers xs × AreOthers ys
parts_of [] ys h = (tt, h)
parts_of (x ∷ xs) ys h = let rest = parts_of xs ys h.1 in ((h.0, rest.0), rest.1)

within : (step : Key) (found : List Leaf) → AreOthers (behind (step ∷ []) found) → AreOthers found
within step [] h = tt
within step (leaf ∷ found) h = (h.0, within step found h.1)

-- no extension occurs in a child if none is among the leaves at it
child : (step : Key) (t : Tree) → AreOthers (leaves_at false step t (leaves false t)) → HasNoExtension t
child step (array (tree t ts)) h = (refl, within step (leaves_of_trees false 0 (tree t ts)) h)
child step (object (pair key t ps)) h = (refl, within step (leaves_of_pairs false (pair key t ps)) h)
child step _ h = h

-- Elements, and values, at the depth after this one have keys.
abbrev AreSortable : Width → Trees → ℕ → Type 0
AreSortable w ts d =
    AreInRange ts × ((n : ℕ) × AreOthers (leaves_of_trees false n ts)) × (d + deepest_of_trees ts < depths w)

abbrev HasSortableValues : Width → Pairs → ℕ → Type 0
HasSortableValues w ps d =
    ValuesAreInRange ps × AreOthers (leaves_of_pairs false ps) × (d + deepest_of_pairs ps < depths w)

first_element : (w : Width) (t : Tree) (ts : Trees) (d : ℕ) → AreSortable w (tree t ts) d
    → HasKey w t (suc d) × AreSortable w ts d
first_element w t ts d (range, (n, others), deep) =
    let here = leaves_at false (index (pos n)) t (leaves false t) in
    let parts = parts_of here (leaves_of_trees false (suc n) ts) others in
    ((range.0, child (index (pos n)) t parts.0, omega arith), (range.1, (suc n, parts.1), omega arith))

first_value : (w : Width) (key : List ℕ) (t : Tree) (ps : Pairs) (d : ℕ) → HasSortableValues w (pair key t ps) d
    → HasKey w t (suc d) × HasSortableValues w ps d
first_value w key t ps d (range, others, deep) =
    let parts = parts_of (leaves_at false (unquoted_name key) t (leaves false t)) (leaves_of_pairs false ps) others in
    ((range.0, child (unquoted_name key) t parts.0, omega arith), (range.1, parts.1, omega arith))

-- depths rank as numbers
depth_ranks : (w : Width) (d e : ℕ) (r s : List ℕ) → d < depths w → e < depths w
    → bytes_cmp (to_be_bytes w d ++ r) (to_be_bytes w e ++ s) ≡ ordering_then (nat_cmp d e) (bytes_cmp r s)
depth_ranks w d e r s hd he = (Ranks-bytes_high_first (byte_len w) d e).ranks r s
    ∙ ap (λ o. ordering_then o (bytes_cmp r s)) (ap₂ nat_cmp (mod-eq_of_lt hd) (mod-eq_of_lt he))

-- two items at one depth: their kinds decide, and otherwise their contents with what follows them
pub items_rank : (w : Width) (d k l : ℕ) (xs ys r s : List ℕ) → d < depths w
    → bytes_cmp (item_bytes w d k xs ++ r) (item_bytes w d l ys ++ s) ≡ ordering_then (nat_cmp k l) (bytes_cmp (xs ++ r) (ys ++ s))
items_rank w d k l xs ys r s h = grind (arith, append_assoc, depth_ranks, nat_cmp_refl)

-- items of one kind
same_kind : (w : Width) (d k : ℕ) (xs ys r s : List ℕ) (o : Ordering) → d < depths w → bytes_cmp (xs ++ r) (ys ++ s) ≡ ordering_then o (bytes_cmp r s)
    → bytes_cmp (item_bytes w d k xs ++ r) (item_bytes w d k ys ++ s) ≡ ordering_then o (bytes_cmp r s)
same_kind w d k xs ys r s o h e = items_rank w d k k xs ys r s h ∙ ap (λ p. ordering_then p (bytes_cmp (xs ++ r) (ys ++ s))) (nat_cmp_refl k) ∙ e

-- items of two kinds
other_kind : (w : Width) (d k l : ℕ) (xs ys r s : List ℕ) → d < depths w → k ≢ l
    → bytes_cmp (item_bytes w d k xs ++ r) (item_bytes w d l ys ++ s) ≡ ordering_then (nat_cmp k l) (bytes_cmp r s)
other_kind w d k l xs ys r s h e = grind (arith, items_rank, cases_order)

-- what may follow an item at one depth may follow one further down
IsRest-deeper : (w : Width) (d : ℕ) (r : List ℕ) → IsRest w d r → IsRest w (suc d) r
IsRest-deeper w d r h = grind arith

-- an item, with anything after it, may follow an item at its depth
pub IsRest-item : (w : Width) (d k : ℕ) (xs r : List ℕ) → IsRest w d (item_bytes w d k xs ++ r)
IsRest-item w d k xs r = inr (d, k ∷ xs ++ r, omega arith, append_assoc (to_be_bytes w d) (k ∷ xs) r)

-- a rest is below an item that is deeper
rest_below : (w : Width) (d k : ℕ) (xs more r s : List ℕ) → suc d < depths w → IsRest w d r
    → bytes_cmp r ((item_bytes w (suc d) k xs ++ more) ++ s) ≡ Less
rest_below w d k xs more r s h e = grind (arith, append_assoc, depth_ranks)

rest_above : (w : Width) (d k : ℕ) (xs more r s : List ℕ) → suc d < depths w → IsRest w d s
    → bytes_cmp ((item_bytes w (suc d) k xs ++ more) ++ r) s ≡ Greater
rest_above w d k xs more r s h e = grind (arith, append_assoc, depth_ranks)

-- lists whose fronts rank so, and then what follows these
then_ranked : (a b x y r s : List ℕ) (o p : Ordering)
    → bytes_cmp (a ++ (x ++ r)) (b ++ (y ++ s)) ≡ ordering_then o (bytes_cmp (x ++ r) (y ++ s))
    → bytes_cmp (x ++ r) (y ++ s) ≡ ordering_then p (bytes_cmp r s)
    → bytes_cmp ((a ++ x) ++ r) ((b ++ y) ++ s) ≡ ordering_then (ordering_then o p) (bytes_cmp r s)
then_ranked a b x y r s o p h k =
    ap₂ bytes_cmp (append_assoc a x r) (append_assoc b y s) ∙ h ∙ ap (ordering_then o) k
    ∙ sym (then_assoc o p (bytes_cmp r s))

-- a key is an item
pub key_is_item : (w : Width) (t : Tree) (d : ℕ) → (xs : List ℕ) × (sortable_key w t d ≡ item_bytes w d (rank t) xs)
key_is_item w Tree.null d = ([], refl)
key_is_item w (Tree.boolean b) d = ([], refl)
key_is_item w (Tree.number n) d = (number_bytes n.whole n.scale, refl)
key_is_item w (Tree.text bytes) d = (text_bytes bytes, refl)
key_is_item w (Tree.extension x) d = (extension_payload x ++ 0 ∷ [], refl)
key_is_item w (Tree.array ts) d = (keys_of_trees w ts (suc d), refl)
key_is_item w (Tree.object ps) d = (keys_of_pairs w ps (suc d), refl)

-- what may follow an element of an array, or a value of an object
IsRest-trees : (w : Width) (ts : Trees) (d : ℕ) (r : List ℕ) → IsRest w d r → IsRest w (suc d) (keys_of_trees w ts (suc d) ++ r)
IsRest-trees w Trees.no_trees d r h = IsRest-deeper w d r h
IsRest-trees w (Trees.tree t ts) d r h =
    let i = key_is_item w t (suc d) in
    search (arith, append_assoc, IsRest-item)

IsRest-pairs : (w : Width) (ps : Pairs) (d : ℕ) (r : List ℕ) → IsRest w d r → IsRest w (suc d) (keys_of_pairs w ps (suc d) ++ r)
IsRest-pairs w ps d r h = grind (arith, IsRest-deeper, append_assoc, IsRest-item)

pub rank_boolean : (b : Bool) → (2 ≤ rank (Tree.boolean b)) × (rank (Tree.boolean b) ≤ 3)
rank_boolean b = grind arith

mutual
  -- the laws of keys follow from the order of keys with rests
  pub keys_rank : (w : Width) (t u : Tree) (d : ℕ) (r s : List ℕ) → HasKey w t d → HasKey w u d → IsRest w d r
      → IsRest w d s
      → bytes_cmp (sortable_key w t d ++ r) (sortable_key w u d ++ s) ≡ ordering_then (tree_cmp t u) (bytes_cmp r s)
  keys_rank w Tree.null Tree.null d r s ht hu hr hs = items_rank w d 8 8 [] [] r s (omega arith)
  keys_rank w (Tree.boolean a) (Tree.boolean b) d r s ht hu hr hs =
      items_rank w d (rank (Tree.boolean a)) (rank (Tree.boolean b)) [] [] r s (omega arith)
  keys_rank w (Tree.number m) (Tree.number n) d r s ht hu hr hs =
      same_kind w d 4 (number_bytes m.whole m.scale) (number_bytes n.whole n.scale) r s (number_cmp m n) (omega arith)
      ((Ranks-number_bytes m.whole n.whole m.scale n.scale (bounded_from_fits m ht.0) (bounded_from_fits n hu.0)).ranks r s)
  keys_rank w (Tree.text a) (Tree.text b) d r s ht hu hr hs =
      same_kind w d 5 (text_bytes a) (text_bytes b) r s (bytes_cmp a b) (omega arith) ((Ranks-text_bytes a b).ranks r s)
  keys_rank w (Tree.extension a) u d r s ht hu hr hs = absurd (cc ht.1.0)
  keys_rank w t (Tree.extension b) d r s ht hu hr hs = absurd (cc hu.1.0)
  keys_rank w (Tree.array ts) (Tree.array us) d r s ht hu hr hs =
      same_kind w d 7 (keys_of_trees w ts (suc d)) (keys_of_trees w us (suc d)) r s (trees_cmp ts us) (omega arith)
      (trees_rank w ts us d r s (ht.0, (0, ht.1.1), ht.2) (hu.0, (0, hu.1.1), hu.2) hr hs)
  keys_rank w (Tree.object ps) (Tree.object qs) d r s ht hu hr hs =
      same_kind w d 6 (keys_of_pairs w ps (suc d)) (keys_of_pairs w qs (suc d)) r s (pairs_cmp ps qs) (omega arith)
      (pairs_rank w ps qs d r s (ht.0.1, ht.1.1, ht.2) (hu.0.1, hu.1.1, hu.2) hr hs)
  keys_rank w t u d r s ht hu hr hs =
      other_kind w d (rank t) (rank u) _ _ r s (omega arith) (omega (arith, rank_boolean))

  trees_rank : (w : Width) (ts us : Trees) (d : ℕ) (r s : List ℕ) → AreSortable w ts d → AreSortable w us d
      → IsRest w d r → IsRest w d s
      → bytes_cmp (keys_of_trees w ts (suc d) ++ r) (keys_of_trees w us (suc d) ++ s) ≡ ordering_then (trees_cmp ts us) (bytes_cmp r s)
  trees_rank w Trees.no_trees Trees.no_trees d r s ht hu hr hs = refl
  trees_rank w Trees.no_trees (Trees.tree u us) d r s ht hu hr hs =
      let i = key_is_item w u (suc d) in
      rw i.1 (rest_below w d (rank u) i.0 (keys_of_trees w us (suc d)) r s (omega arith) hr)
  trees_rank w (Trees.tree t ts) Trees.no_trees d r s ht hu hr hs =
      let i = key_is_item w t (suc d) in
      rw i.1 (rest_above w d (rank t) i.0 (keys_of_trees w ts (suc d)) r s (omega arith) hs)
  trees_rank w (Trees.tree t ts) (Trees.tree u us) d r s ht hu hr hs =
      let (a, more) = first_element w t ts d ht in
      let (b, others) = first_element w u us d hu in
      let x = keys_of_trees w ts (suc d) in
      let y = keys_of_trees w us (suc d) in
      then_ranked (sortable_key w t (suc d)) (sortable_key w u (suc d)) x y r s (tree_cmp t u) (trees_cmp ts us)
      (keys_rank w t u (suc d) (x ++ r) (y ++ s) a b (IsRest-trees w ts d r hr) (IsRest-trees w us d s hs))
      (trees_rank w ts us d r s more others hr hs)

  pairs_rank : (w : Width) (ps qs : Pairs) (d : ℕ) (r s : List ℕ) → HasSortableValues w ps d → HasSortableValues w qs d
      → IsRest w d r → IsRest w d s
      → bytes_cmp (keys_of_pairs w ps (suc d) ++ r) (keys_of_pairs w qs (suc d) ++ s) ≡ ordering_then (pairs_cmp ps qs) (bytes_cmp r s)
  pairs_rank w Pairs.no_pairs Pairs.no_pairs d r s ht hu hr hs = refl
  pairs_rank w Pairs.no_pairs (Pairs.pair l u qs) d r s ht hu hr hs =
      rest_below w d 5 (text_bytes l) (sortable_key w u (suc d) ++ keys_of_pairs w qs (suc d)) r s (omega arith) hr
  pairs_rank w (Pairs.pair k t ps) Pairs.no_pairs d r s ht hu hr hs =
      rest_above w d 5 (text_bytes k) (sortable_key w t (suc d) ++ keys_of_pairs w ps (suc d)) r s (omega arith) hs
  pairs_rank w (Pairs.pair k t ps) (Pairs.pair l u qs) d r s ht hu hr hs =
      let (a, more) = first_value w k t ps d ht in
      let (b, others) = first_value w l u qs d hu in
      let x = keys_of_pairs w ps (suc d) in
      let y = keys_of_pairs w qs (suc d) in
      let m = sortable_key w t (suc d) in
      let n = sortable_key w u (suc d) in
      then_ranked (item_bytes w (suc d) 5 (text_bytes k)) (item_bytes w (suc d) 5 (text_bytes l)) (m ++ x) (n ++ y) r s
      (bytes_cmp k l) (ordering_then (tree_cmp t u) (pairs_cmp ps qs))
      (same_kind w (suc d) 5 (text_bytes k) (text_bytes l) ((m ++ x) ++ r) ((n ++ y) ++ s) (bytes_cmp k l) (omega arith)
      ((Ranks-text_bytes k l).ranks ((m ++ x) ++ r) ((n ++ y) ++ s)))
      (then_ranked m n x y r s (tree_cmp t u) (pairs_cmp ps qs)
      (keys_rank w t u (suc d) (x ++ r) (y ++ s) a b (IsRest-pairs w ps d r hr) (IsRest-pairs w qs d s hs))
      (pairs_rank w ps qs d r s more others hr hs))

-- The elements, and the values, of a container that fits.
abbrev AreFit : Trees → Type 0
AreFit ts = AreInRange ts × HasShortElements canonical ts

abbrev HasFitValues : Pairs → Type 0
HasFitValues ps = ValuesAreInRange ps × HasShortValues canonical ps

part_fits : (t : Tree) → IsInRange t → IsShort canonical t → HasShortParts canonical t → Fits t
part_fits t range short parts = (range, grind (arith, short, parts))

same_rank_boolean : (a b : Bool) → rank (Tree.boolean a) ≡ rank (Tree.boolean b) → a ≡ b
same_rank_boolean a b h = grind arith

-- if lists that rank so are the fronts of one list, they rank as equal and the rests are equal
ranks_apart : (xs ys r s : List ℕ) (o : Ordering) → Ranks xs ys o → xs ++ r ≡ ys ++ s → (o ≡ Equal) × (r ≡ s)
ranks_apart xs ys r s o h e =
    let b = both_equal o (bytes_cmp r s) (sym (h.ranks r s) ∙ ap (λ x. bytes_cmp x (ys ++ s)) e ∙ bytes_cmp_refl (ys ++ s)) in
    (b.0, same_from_bytes_cmp r s b.1)

heads : (k l : ℕ) (xs ys : List ℕ) → k ∷ xs ≡ l ∷ ys → (k ≡ l) × (xs ≡ ys)
heads k l xs ys e = (cc, cc)

-- numbers in as many bytes at the front
same_count : (k m n : ℕ) (r s : List ℕ) → m < 256 ^ k → n < 256 ^ k → (bytes_high_first k m ++ r) ≡ (bytes_high_first k n ++ s) → (m ≡ n) × (r ≡ s)
same_count k m n r s hm hn e =
    let h = ranks_apart (bytes_high_first k m) (bytes_high_first k n) r s (nat_cmp (m % 256 ^ k) (n % 256 ^ k)) (Ranks-bytes_high_first k m n) e in
    (sym (mod-eq_of_lt hm) ∙ nat_cmp-equal (m % 256 ^ k) (n % 256 ^ k) h.0 ∙ mod-eq_of_lt hn, h.1)

counted : (k m n : ℕ) (xs ys r s : List ℕ) → m < 256 ^ k → n < 256 ^ k → (bytes_high_first k m ++ xs) ++ r ≡ (bytes_high_first k n ++ ys) ++ s
    → (m ≡ n) × (xs ++ r ≡ ys ++ s)
counted k m n xs ys r s hm hn e = grind (arith, same_count, append_assoc)

-- fronts of one length
same_front : (xs ys r s : List ℕ) → length xs ≡ length ys → xs ++ r ≡ ys ++ s → (xs ≡ ys) × (r ≡ s)
same_front [] [] r s l e = (refl, e)
same_front (x ∷ xs) (y ∷ ys) r s l e = grind (arith, same_front xs ys r s, heads)
same_front xs ys r s l e = absurd (omega arith)

mutual
  pub equal_from_keys : (t u : Tree) (r s : List ℕ) → Fits t → Fits u → equality_key t ++ r ≡ equality_key u ++ s
      → IsEqual t u × (r ≡ s)
  equal_from_keys Tree.null Tree.null r s ht hu e = (tt, (heads 8 8 r s e).1)
  equal_from_keys (Tree.boolean a) (Tree.boolean b) r s ht hu e = let h = heads (rank (Tree.boolean a)) (rank (Tree.boolean b)) r s e in
      (same_rank_boolean a b h.0, h.1)
  equal_from_keys (Tree.number m) (Tree.number n) r s ht hu e =
      ranks_apart (number_bytes m.whole m.scale) (number_bytes n.whole n.scale) r s (number_cmp m n)
      (Ranks-number_bytes m.whole n.whole m.scale n.scale (bounded_from_fits m ht.0) (bounded_from_fits n hu.0))
      (heads 4 4 _ _ e).1
  equal_from_keys (Tree.text a) (Tree.text b) r s ht hu e =
      let h = ranks_apart (text_bytes a) (text_bytes b) r s (bytes_cmp a b) (Ranks-text_bytes a b) (heads 5 5 _ _ e).1 in
      (same_from_bytes_cmp a b h.0, h.1)
  equal_from_keys (Tree.extension a) (Tree.extension b) r s ht hu e =
      let h = counted 8 (length (extension_payload a)) (length (extension_payload b)) (extension_payload a) (extension_payload b) r s (omega (arith, ht.1))
      (omega (arith, hu.1)) (heads 1 1 _ _ e).1 in
      let same = same_front (extension_payload a) (extension_payload b) r s h.0 h.1 in
      (some_injective (sym (extension_back a ht.0) ∙ ap extension_of same.0 ∙ extension_back b hu.0), same.1)
  equal_from_keys (Tree.array ts) (Tree.array us) r s ht hu e =
      let h = counted 4 (count ts) (count us) (equality_keys_of_trees ts) (equality_keys_of_trees us) r s (omega arith) (omega arith) (heads 7 7 _ _ e).1 in
      equal_from_keys_of_trees ts us r s (ht.0, ht.1.1) (hu.0, hu.1.1) h.0 h.1
  equal_from_keys (Tree.object ps) (Tree.object qs) r s ht hu e =
      let h = counted 4 (length (keys ps)) (length (keys qs)) (equality_keys_of_pairs ps) (equality_keys_of_pairs qs) r s (omega arith) (omega arith)
      (heads 6 6 _ _ e).1 in
      equal_from_keys_of_pairs ps qs r s (ht.0.1, ht.1.2) (hu.0.1, hu.1.2) h.0 h.1
  equal_from_keys t u r s ht hu e = absurd (let h = heads (rank t) (rank u) _ _ e in omega (arith, h.0, rank_boolean))

  pub equal_from_keys_of_trees : (ts us : Trees) (r s : List ℕ) → AreFit ts → AreFit us → count ts ≡ count us
      → equality_keys_of_trees ts ++ r ≡ equality_keys_of_trees us ++ s → AreEqual ts us × (r ≡ s)
  equal_from_keys_of_trees Trees.no_trees Trees.no_trees r s ht hu c e = (tt, e)
  equal_from_keys_of_trees (Trees.tree t ts) (Trees.tree u us) r s ht hu c e =
      let h = equal_from_keys t u (equality_keys_of_trees ts ++ r) (equality_keys_of_trees us ++ s)
      (part_fits t ht.0.0 ht.1.0 ht.1.1) (part_fits u hu.0.0 hu.1.0 hu.1.1)
      (sym (append_assoc (equality_key t) (equality_keys_of_trees ts) r) ∙ e ∙ append_assoc (equality_key u) (equality_keys_of_trees us) s) in
      let k = equal_from_keys_of_trees ts us r s (ht.0.1, ht.1.2) (hu.0.1, hu.1.2) (omega arith) h.1 in
      ((h.0, k.0), k.1)
  equal_from_keys_of_trees ts us r s ht hu c e = absurd (omega arith)

  pub equal_from_keys_of_pairs : (ps qs : Pairs) (r s : List ℕ) → HasFitValues ps → HasFitValues qs
      → length (keys ps) ≡ length (keys qs)
      → equality_keys_of_pairs ps ++ r ≡ equality_keys_of_pairs qs ++ s → PairsAreEqual ps qs × (r ≡ s)
  equal_from_keys_of_pairs Pairs.no_pairs Pairs.no_pairs r s ht hu c e = (tt, e)
  equal_from_keys_of_pairs (Pairs.pair k t ps) (Pairs.pair l u qs) r s ht hu c e =
      let f = ranks_apart (text_bytes k) (text_bytes l) (equality_key t ++ (equality_keys_of_pairs ps ++ r))
      (equality_key u ++ (equality_keys_of_pairs qs ++ s)) (bytes_cmp k l) (Ranks-text_bytes k l)
      (heads 5 5 _ _ (sym (apart k t ps r) ∙ e ∙ apart l u qs s)).1 in
      let h = equal_from_keys t u (equality_keys_of_pairs ps ++ r) (equality_keys_of_pairs qs ++ s)
      (part_fits t ht.0.0 ht.1.0 ht.1.1) (part_fits u hu.0.0 hu.1.0 hu.1.1) f.1 in
      let g = equal_from_keys_of_pairs ps qs r s (ht.0.1, ht.1.2) (hu.0.1, hu.1.2) (omega arith) h.1 in
      ((same_from_bytes_cmp k l f.0, h.0, g.0), g.1)
    where
      apart : (k : List ℕ) (t : Tree) (ps : Pairs) (r : List ℕ)
          → equality_keys_of_pairs (Pairs.pair k t ps) ++ r ≡ (5 ∷ text_bytes k) ++ (equality_key t ++ (equality_keys_of_pairs ps ++ r))
      apart k t ps r = grind (arith, append_assoc)
  equal_from_keys_of_pairs ps qs r s ht hu c e = absurd (omega arith)

-- numbers of one exact value have one spelling
same_number : (m n : Number) → FitsNumber m → FitsNumber n → number_cmp m n ≡ Equal → number_bytes m.whole m.scale ≡ number_bytes n.whole n.scale
same_number m n hm hn e =
    same_from_bytes_cmp (number_bytes m.whole m.scale) (number_bytes n.whole n.scale)
    (ranks_alone (number_bytes m.whole m.scale) (number_bytes n.whole n.scale) (number_cmp m n)
    (Ranks-number_bytes m.whole n.whole m.scale n.scale (bounded_from_fits m hm) (bounded_from_fits n hn)) ∙ e)

mutual
  same_key : (t u : Tree) → Fits t → Fits u → IsEqual t u → equality_key t ≡ equality_key u
  same_key Tree.null Tree.null ht hu h = refl
  same_key (Tree.boolean a) (Tree.boolean b) ht hu h = ap (λ b. equality_key (Tree.boolean b)) h
  same_key (Tree.number m) (Tree.number n) ht hu h = ap (λ x. 4 ∷ x) (same_number m n ht.0 hu.0 h)
  same_key (Tree.text a) (Tree.text b) ht hu h = ap (λ b. equality_key (Tree.text b)) h
  same_key (Tree.extension a) (Tree.extension b) ht hu h = ap (λ b. equality_key (Tree.extension b)) h
  same_key (Tree.array ts) (Tree.array us) ht hu h =
      let same = same_keys_of_trees ts us (ht.0, ht.1.1) (hu.0, hu.1.1) h in cc (same.0, same.1)
  same_key (Tree.object ps) (Tree.object qs) ht hu h =
      let same = same_keys_of_pairs ps qs (ht.0.1, ht.1.2) (hu.0.1, hu.1.2) h in cc (same.0, same.1)
  same_key t u ht hu h = absurd h

  same_keys_of_trees : (ts us : Trees) → AreFit ts → AreFit us → AreEqual ts us
      → (count ts ≡ count us) × (equality_keys_of_trees ts ≡ equality_keys_of_trees us)
  same_keys_of_trees Trees.no_trees Trees.no_trees ht hu h = (refl, refl)
  same_keys_of_trees (Trees.tree t ts) (Trees.tree u us) ht hu h =
      let first = same_key t u (part_fits t ht.0.0 ht.1.0 ht.1.1) (part_fits u hu.0.0 hu.1.0 hu.1.1) h.0 in
      let rest = same_keys_of_trees ts us (ht.0.1, ht.1.2) (hu.0.1, hu.1.2) h.1 in
      (ap suc rest.0, ap₂ (λ x y. x ++ y) first rest.1)
  same_keys_of_trees ts us ht hu h = absurd h

  same_keys_of_pairs : (ps qs : Pairs) → HasFitValues ps → HasFitValues qs → PairsAreEqual ps qs
      → (length (keys ps) ≡ length (keys qs)) × (equality_keys_of_pairs ps ≡ equality_keys_of_pairs qs)
  same_keys_of_pairs Pairs.no_pairs Pairs.no_pairs ht hu h = (refl, refl)
  same_keys_of_pairs (Pairs.pair k t ps) (Pairs.pair l u qs) ht hu h =
      let first = same_key t u (part_fits t ht.0.0 ht.1.0 ht.1.1) (part_fits u hu.0.0 hu.1.0 hu.1.1) h.1 in
      let rest = same_keys_of_pairs ps qs (ht.0.1, ht.1.2) (hu.0.1, hu.1.2) h.2 in
      (ap suc rest.0, cc (first, rest.1))
  same_keys_of_pairs ps qs ht hu h = absurd h

alone : (w : Width) (t u : Tree) (d : ℕ) → HasKey w t d → HasKey w u d → bytes_cmp (sortable_key w t d) (sortable_key w u d) ≡ tree_cmp t u
alone w t u d h k =
    let ranked = keys_rank w t u d [] [] h k (inl refl) (inl refl) in
    cc (append-nil (sortable_key w t d), append-nil (sortable_key w u d), then_Equal (tree_cmp t u), ranked)

pub keys_keep_below : (w : Width) (t u : Tree) (d : ℕ) (r s : List ℕ) → HasKey w t d → HasKey w u d → IsRest w d r → IsRest w d s → tree_cmp t u ≡ Less
    → bytes_cmp (sortable_key w t d ++ r) (sortable_key w u d ++ s) ≡ Less
keys_keep_below w t u d r s h k hr hs e = keys_rank w t u d r s h k hr hs ∙ ap (λ o. ordering_then o (bytes_cmp r s)) e

pub keys_keep_equal : (w : Width) (t u : Tree) (d : ℕ) → HasKey w t d → HasKey w u d → IsTrue (is_equal t u) → sortable_key w t d ≡ sortable_key w u d
keys_keep_equal w t u d h k e = same_from_bytes_cmp (sortable_key w t d) (sortable_key w u d) (alone w t u d h k ∙ tree_cmp-equal t u (equal_from_test t u e))

pub keys_order : (w : Width) (t u : Tree) → HasKey w t 0 → HasKey w u 0 → bytes_cmp (sortable_key w t 0) (sortable_key w u 0) ≡ tree_cmp t u
keys_order w t u h k = alone w t u 0 h k

pub keys_tell_apart : (w : Width) (t u : Tree) → HasKey w t 0 → HasKey w u 0 → (sortable_key w t 0 ≡ sortable_key w u 0) ↔ IsTrue (is_equal t u)
keys_tell_apart w t u h k = (
  λ e. is_equal-true t u (equal_from_tree_cmp t u h.0 k.0
      (sym (alone w t u 0 h k) ∙ ap (λ x. bytes_cmp x (sortable_key w u 0)) e ∙ bytes_cmp_refl (sortable_key w u 0))),
  λ e. keys_keep_equal w t u 0 h k e,
)

pub equality_keys_tell_apart : (t u : Tree) → Fits t → Fits u → (equality_key t ≡ equality_key u) ↔ IsTrue (is_equal t u)
equality_keys_tell_apart t u h k = (
  λ e. is_equal-true t u
      (equal_from_keys t u [] [] h k (append-nil (equality_key t) ∙ e ∙ sym (append-nil (equality_key u)))).0,
  λ e. same_key t u h k (equal_from_test t u e),
)

-- the bytes rank with the key of the tree u as the tree t does
abbrev RanksWith : Width → Tree → Tree → List ℕ → Type 0
RanksWith w t u bytes = (bytes_cmp bytes (sortable_key w u 0) ≡ tree_cmp t u) × ((bytes ≡ sortable_key w u 0) ↔ IsTrue (is_equal t u))

-- the tree of a document has a key, since it was decoded and is thus in range
pub decoded_key : (w : Width) (form : Form) (bytes : List ℕ) (t : Tree) → AreBytes bytes → Decodes form bytes t → HasNoExtension t → deepest t < depths w
    → HasKey w t 0
decoded_key w form bytes t all d none deep = ((decoded_fits form bytes t all d).0, none, omega (arith, deep))

-- the key of a document ranks as its tree
pub decoded_ranks : (w : Width) (form : Form) (bytes made : List ℕ) (t : Tree) → AreBytes bytes → Decodes form bytes t → made ≡ sortable_key w t 0
    → deepest t < depths w → HasNoExtension t → (u : Tree) → HasKey w u 0 → RanksWith w t u made
decoded_ranks w form bytes made t all d e deep none u k =
    (rw e (keys_order w t u (decoded_key w form bytes t all d none deep) k, keys_tell_apart w t u (decoded_key w form bytes t all d none deep) k))

-- ---- keys of several values, one after the other, from the keys of each with what follows it

abbrev composite_key : Width → List (Option Tree) → List ℕ
composite_key w columns = flat_map (column_key w) columns

pub some_depth : (w : Width) → 0 < depths w
some_depth w = one-le-pow (byte_len w) 256 (omega arith)

-- a column is an item at depth 0
column_is_item : (w : Width) (column : Option Tree) → (k : ℕ) × (xs : List ℕ) × (column_key w column ≡ item_bytes w 0 k xs)
column_is_item w None = (0, [], refl)
column_is_item w (Some t) = let i = key_is_item w t 0 in (rank t, i.0, i.1)

-- so that columns may follow a column
follows : (w : Width) (columns : List (Option Tree)) → IsRest w 0 (composite_key w columns)
follows w [] = inl refl
follows w (column ∷ columns) =
    search (arith, column_is_item w column, IsRest-item w 0 (column_is_item w column).0 (column_is_item w column).1 (composite_key w columns))

below_column : (w : Width) (column : Option Tree) (s : List ℕ) → bytes_cmp [] (column_key w column ++ s) ≡ Less
below_column w column s = grind (arith, column_is_item, append_assoc)

above_nothing : (w : Width) (column : Option Tree) (r : List ℕ) → bytes_cmp (column_key w column ++ r) [] ≡ Greater
above_nothing w column r = grind (arith, column_is_item, append_assoc)

columns_rank : (w : Width) (t u : Option Tree) (r s : List ℕ) → IfSome t (λ x. HasKey w x 0) → IfSome u (λ x. HasKey w x 0) → IsRest w 0 r → IsRest w 0 s
    → bytes_cmp (column_key w t ++ r) (column_key w u ++ s) ≡ ordering_then (option_cmp tree_cmp t u) (bytes_cmp r s)
columns_rank w None None r s ht hu hr hs = items_rank w 0 0 0 [] [] r s (some_depth w)
columns_rank w None (Some u) r s ht hu hr hs = grind (arith, key_is_item, items_rank, some_depth)
columns_rank w (Some t) None r s ht hu hr hs = grind (arith, key_is_item, items_rank, some_depth)
columns_rank w (Some t) (Some u) r s ht hu hr hs = keys_rank w t u 0 r s ht hu hr hs

pub composite_keys_order : (w : Width) (ts us : List (Option Tree)) → HaveKeys w ts → HaveKeys w us
    → bytes_cmp (composite_key w ts) (composite_key w us) ≡ slice_cmp (option_cmp tree_cmp) ts us
composite_keys_order w [] [] ht hu = refl
composite_keys_order w [] (u ∷ us) ht hu = below_column w u (composite_key w us)
composite_keys_order w (t ∷ ts) [] ht hu = above_nothing w t (composite_key w ts)
composite_keys_order w (t ∷ ts) (u ∷ us) ht hu =
    cc (columns_rank w t u (composite_key w ts) (composite_key w us) ht.0 hu.0 (follows w ts) (follows w us), composite_keys_order w ts us ht.1 hu.1)
