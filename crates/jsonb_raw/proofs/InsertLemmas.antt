-- What is inserted and what is concatenated: positions, pairs that are merged, and the entries that result.
use Rattle.jsonb_raw.proofs.Common.{◌≡◌, ℕ, suc, map-append, ◌+◌, true, false, List, [], ◌∷◌, ◌++◌, length, refl, sym, ap, subst, ◌∙◌, arith, append_assoc, Some, Less, Equal, Greater, map, take, drop, append-nil, is_some, length-append, slice_cmp, keys_of, values_of, Equal-is, is_eq-slice_cmp, bytes_eq-Decides, Tree, object, Pairs, no_pairs, pair, keys, text, members, pairs_of, Form, IsBelowFirst, AreKeys, insert_pair, keys_rise, AreRising, PairPlace, AreBelow, IsKeyPosition, ArePairsOf, IsPlaceAmong, Make, Around, IsWriting, Writer, keys_of-members, PairEntries, HoldTrees, HoldPairs, Bool, not, Option, Ordering, ordering_reverse, match_ordering, nat_list_cmp_total, below_inserted, Decodes, decoded_keys, FirstPair, PairRuns, merged, TakesFirstPair, IsFirstPair, PairsHeld, PairsOpen, below_next, bytes_cmp_refl}
use Rattle.jsonb_doc.specs.declared.key_search.KeyPosition.TheVariants.{Found, Missing}
use Rattle.jsonb_raw.proofs.PartedRuns.{no_value, value_after_less, value_at_equal, turned, same_below, test_of_order}
use Rattle.jsonb_doc.specs.declared.layout.HeaderKind.TheVariants as header_kind
use Rattle.jsonb_raw.proofs.RunLemmas.{Member, pairs_begun, pair_kept, others_hold, left_holds, pair_taken, no_pair_left}
use Rattle.std.specs.Ordering.{nat_cmp}
use Rattle.std.proofs.lemmas.List.{take-map, drop-map, length-map}

same_key : (key name : List ℕ) → key ≡ name → slice_cmp nat_cmp name key ≡ Equal
same_key key name e = (Equal-is (slice_cmp nat_cmp name key)).0 (is_eq-slice_cmp name key ∙ (bytes_eq-Decides name key).1 (sym e))

-- ---- the place of a name

-- a member with a lower key is before the place
place_behind : (place : PairPlace) (name key : List ℕ) (t : Tree) (ps : Pairs) → slice_cmp nat_cmp key name ≡ Less
    → IsPlaceAmong place name ps
    → IsPlaceAmong (record { passed = suc place.passed; taken = place.taken }) name (pair key t ps)
place_behind place name key t ps less h = record {
  there = λ some. ap is_some (value_after_less name key t ps less) ∙ h.there some;
  missing = λ none. ap is_some (value_after_less name key t ps less) ∙ h.missing none;
  inserted = λ x. rw (turned key name Less less) (ap (λ rest. (key, t) ∷ rest) (h.inserted x));
}

-- the place among members that are not below the name is that after all below it
place_after : (name : List ℕ) (taken : ℕ) (ps : Pairs) (front back : List (List ℕ))
    → ((qs : Pairs) → AreKeys (keys qs) → keys qs ≡ back → IsPlaceAmong (record { passed = 0; taken = taken }) name qs)
    → AreKeys (keys ps)
    → keys ps ≡ front ++ back → AreBelow name front
    → IsPlaceAmong (record { passed = length front; taken = taken }) name ps
place_after name taken ps [] back here are e below = here ps are e
place_after name taken no_pairs (low ∷ front) back here are e below = absurd (cc)
place_after name taken (pair key t ps) (low ∷ front) back here are e below =
    let same : key ≡ low = cc e in
    let rest : keys ps ≡ front ++ back = cc e in
    place_behind _ name key t ps (rw same below.0) (place_after name taken ps front back here are.2 rest below.1)

at_name : (name : List ℕ) (back : List (List ℕ)) (ps : Pairs) → keys ps ≡ name ∷ back
    → IsPlaceAmong (record { passed = 0; taken = 1 }) name ps
at_name name back no_pairs e = absurd (cc)
at_name name back (pair key t ps) e =
    let same : key ≡ name = cc e in
    let equal : slice_cmp nat_cmp key name ≡ Equal = same_key name key (sym same) in
    record {
      there = λ some. ap is_some (value_at_equal name key t ps equal);
      missing = λ none. absurd (omega (arith, none));
      inserted = λ x. rw (turned key name Equal equal, same) refl;
    }

above_name : (name : List ℕ) (ps : Pairs) → AreKeys (keys ps) → IsBelowFirst name (keys ps)
    → IsPlaceAmong (record { passed = 0; taken = 0 }) name ps
above_name name no_pairs are below =
    record { there = λ some. absurd (omega (arith, some)); missing = λ none. refl; inserted = λ x. refl }
above_name name (pair key t ps) are below = record {
  there = λ some. absurd (omega (arith, some));
  missing = λ none. ap is_some (no_value name (pair key t ps) below (keys_rise (keys (pair key t ps)) are));
  inserted = λ x. rw below refl;
}

module _ (name : List ℕ) (ps : Pairs) (passed : ℕ) (are : AreKeys (keys ps)) where
  pub place_there : IsKeyPosition name (keys ps) (Found passed)
      → IsPlaceAmong (record { passed = passed; taken = 1 }) name ps
  place_there (front, back, count, joined, below) =
      rw count (place_after name 1 ps front (name ∷ back) (λ qs some e. at_name name back qs e) are joined below)

  pub place_before : IsKeyPosition name (keys ps) (Missing passed)
      → IsPlaceAmong (record { passed = passed; taken = 0 }) name ps
  place_before (front, back, count, joined, below, above) =
      rw count (place_after name 0 ps front back (λ qs some e. above_name name qs some (rw e above)) are joined below)

-- Holds if the tree is an object, and these are its members.
pub record IsObjectOf (form : Form) (t : Tree) (pairs : PairEntries) : Type 0 where
  pub ps : Pairs
  pub is : t ≡ object ps
  pub are : AreKeys (keys ps)
  pub hold : HoldPairs form pairs (members ps)
  pub names : HoldTrees form pairs.keys (map text (keys ps))

pub object_of_pairs : {raw bytes : List ℕ} {found : Option PairEntries} {pairs : PairEntries} (form : Form) (t : Tree)
    → bytes ≡ raw → found ≡ Some pairs → Decodes form raw t
    → ((u : Tree) → Decodes form bytes u → ArePairsOf form u found) → IsObjectOf form t pairs
object_of_pairs {raw} {bytes} {found} {pairs} form (object ps) same is d entries =
    let at : Decodes form bytes (object ps) = rw same d in
    let hold : HoldPairs form pairs (members ps) = rw is at (entries (object ps) at) in
    let names : HoldTrees form pairs.keys (map text (keys ps)) = rw (keys_of-members ps) at hold.names in
    record { ps = ps; is = refl; are = decoded_keys form bytes ps at; hold = hold; names = names }
object_of_pairs {raw} {bytes} {found} {pairs} form t same is d entries = absurd (rw is at (entries t (rw same d)))

-- ---- the entries of an object with a member more

pub rising_inserted : (key : List ℕ) (x : Tree) (ps : List Member) → AreRising (keys_of ps)
    → AreRising (keys_of (insert_pair key x ps))
rising_inserted key x [] rising = (tt, tt)
rising_inserted key x (p ∷ ps) rising = go (slice_cmp nat_cmp key p.0) refl (rising_inserted key x ps rising.1)
  where
    go : (o : Ordering) → slice_cmp nat_cmp key p.0 ≡ o → AreRising (keys_of (insert_pair key x ps))
        → AreRising (keys_of (match_ordering o ((key, x) ∷ p ∷ ps) ((p.0, x) ∷ ps) (p ∷ insert_pair key x ps)))
    go Less e rest = (e, rising)
    go Equal e rest = rising
    go Greater e rest = (below_inserted p.0 key x ps rising.0 (turned key p.0 Greater e), rest)

abbrev names_of : List Member → List Tree
names_of ps = map text (keys_of ps)

-- they are those before the new member, its own, and those after it: first of keys, then of values
pub all_coming : (place : PairPlace) (name : List ℕ) (t : Tree) (ps : Pairs) (n : ℕ) → AreKeys (keys ps)
    → IsPlaceAmong place name ps
    → n ≡ length (take place.passed (names_of (members ps))) + 1
    + length (drop place.taken (drop place.passed (names_of (members ps))))
    → Make header_kind.Object n (take place.passed (names_of (members ps))
    ++ (text name ∷ (drop place.taken (drop place.passed (names_of (members ps)))
    ++ (take place.passed (values_of (members ps))
    ++ (t ∷ drop place.taken (drop place.passed (values_of (members ps))))))))
    (object (pairs_of (insert_pair name t (members ps))))
all_coming place name t ps n are at is = (
  insert_pair name t (members ps),
  rw (at.inserted t) (simp length-append (is ∙ simp (take-map, drop-map, length-map) (omega arith))),
  rising_inserted name t (members ps) (rw (keys_of-members ps) (keys_rise (keys ps) are)),
  rw (at.inserted t) (simp (take-map, drop-map, map-append, append_assoc)),
  refl,
)

-- nothing comes after the last of them
pub none_after : (form : Form) (w : Writer) (xs ys : List Tree) (t : Tree) (around : Around) (whole : Tree) → IsWriting form w (xs ++ (t ∷ ys)) around whole
    → IsWriting form w (xs ++ (t ∷ (ys ++ []))) around whole
none_after form w xs ys t around whole h = subst (λ (us : List Tree). IsWriting form w (xs ++ (t ∷ us)) around whole) (sym (append-nil ys)) h

-- ---- lists

-- a first pair below all that are put to it stays the first
pub merged_first : (p : Member) (xs qs : List Member) → IsBelowFirst p.0 (keys_of qs) → AreRising (keys_of qs) → merged (p ∷ xs) qs ≡ p ∷ merged xs qs
merged_first p xs [] below rising = refl
merged_first p xs (q ∷ qs) below rising =
    rw (turned p.0 q.0 Less below) (merged_first p (insert_pair q.0 q.1 xs) qs (below_next p.0 q.0 (keys_of qs) below rising.0) rising.1)

pub merged_none : (qs : List Member) → AreRising (keys_of qs) → merged [] qs ≡ qs
merged_none [] rising = refl
merged_none (q ∷ qs) rising = merged_first q [] qs rising.0 rising.1 ∙ ap (λ rest. q ∷ rest) (merged_none qs rising.1)

module _ (k : List ℕ) (t : Tree) (l : List ℕ) (u : Tree) (xs qs : List Member) (rising : AreRising (l ∷ keys_of qs)) where
  pub merged_less : slice_cmp nat_cmp k l ≡ Less → merged ((k, t) ∷ xs) ((l, u) ∷ qs) ≡ (k, t) ∷ merged xs ((l, u) ∷ qs)
  merged_less e = merged_first (k, t) xs ((l, u) ∷ qs) e rising

  pub merged_equal : slice_cmp nat_cmp k l ≡ Equal → merged ((k, t) ∷ xs) ((l, u) ∷ qs) ≡ (k, u) ∷ merged xs qs
  merged_equal e =
      let same : slice_cmp nat_cmp l k ≡ Equal = nat_list_cmp_total.antisymm l k ∙ ap ordering_reverse e in
      rw same (merged_first (k, u) xs qs (same_below l k (keys_of qs) same rising.0) rising.1)

-- what is put together has rising keys
pub merged_rising : (ps qs : List Member) → AreRising (keys_of ps) → AreRising (keys_of (merged ps qs))
merged_rising ps [] rising = rising
merged_rising ps (q ∷ qs) rising = merged_rising (insert_pair q.0 q.1 ps) qs (rising_inserted q.0 q.1 ps rising)

-- ---- a loop over both in step

-- What is left of both, given whether the first of them are those of the second.
abbrev pub both : Bool → List Member → List Member → List Member
both false cs os = merged cs os
both true cs os = merged os cs

module _ (p o : Member) (cs os : List Member) (r : AreRising (p.0 ∷ keys_of cs)) (s : AreRising (o.0 ∷ keys_of os)) where
  both_less : (b : Bool) → slice_cmp nat_cmp p.0 o.0 ≡ Less → both b (p ∷ cs) (o ∷ os) ≡ p ∷ both b cs (o ∷ os)
  both_less b h = grind (arith, merged_less, turned, merged_first)

  both_greater : (b : Bool) → slice_cmp nat_cmp p.0 o.0 ≡ Greater → both b (p ∷ cs) (o ∷ os) ≡ o ∷ both (not b) os (p ∷ cs)
  both_greater b h = grind (arith, merged_less, turned, merged_first)

  equal_key : slice_cmp nat_cmp p.0 o.0 ≡ Equal → p.0 ≡ o.0
  equal_key e = (bytes_eq-Decides p.0 o.0).0 (test_of_order p.0 o.0 Equal e)

  both_equal : slice_cmp nat_cmp p.0 o.0 ≡ Equal → both false (p ∷ cs) (o ∷ os) ≡ o ∷ both true os cs
  both_equal e = merged_equal p.0 p.1 o.0 o.1 cs os s e ∙ ap (λ (k : List ℕ). (k, o.1) ∷ merged cs os) (equal_key e)

  both_same : slice_cmp nat_cmp p.0 o.0 ≡ Equal → both true (p ∷ cs) (o ∷ os) ≡ p ∷ both true cs os
  both_same e = merged_equal o.0 o.1 p.0 p.1 os cs r (turned p.0 o.0 Equal e)
      ∙ ap (λ (k : List ℕ). (k, p.1) ∷ merged os cs) (sym (equal_key e))

-- the pairs that are kept, followed by what is left of both, are the whole
pub record Merging (form : Form) (runs : PairRuns) (run left other : PairEntries) (is_second : Bool) (whole : List Member) : Type 0 where
  pub held : List Member
  pub mine : List Member
  pub theirs : List Member
  pub pairs : PairsOpen form runs run left held mine
  pub others : HoldPairs form other theirs
  pub rising : AreRising (keys_of mine)
  pub other_rising : AreRising (keys_of theirs)
  pub joined : held ++ both is_second mine theirs ≡ whole

pub merging_begun : (form : Form) (runs : PairRuns) (first second : PairEntries) (ps qs : List Member) → runs.keys.items ≡ [] → runs.values.items ≡ []
    → HoldPairs form first ps → HoldPairs form second qs → AreRising (keys_of ps) → AreRising (keys_of qs) → Merging form runs first first second false
    (merged ps qs)
merging_begun form runs first second ps qs keys_none values_none h g r s = record {
  held = [];
  mine = ps;
  theirs = qs;
  pairs = pairs_begun form runs first [] ps (grind arith) h;
  others = g;
  rising = r;
  other_rising = s;
  joined = refl;
}

module _ (form : Form) (runs : PairRuns) (run left other : PairEntries) (b : Bool) (whole : List Member) (m : Merging form runs run left other b whole) where
  pub left_of : HoldPairs form left m.mine
  left_of = left_holds form runs run left m.held m.mine m.pairs

  module _ (pair next : FirstPair) (mine : TakesFirstPair form left m.mine (Some pair)) (theirs : TakesFirstPair form other m.theirs (Some next)) where
    -- what is left of both begins with these pairs
    with_firsts : {G : Type 0} → ((p o : Member) (cs os : List Member)
        → slice_cmp nat_cmp p.0 o.0 ≡ slice_cmp nat_cmp pair.key.now next.key.now
        → IsFirstPair form left p cs pair → IsFirstPair form other o os next
        → PairsOpen form runs run left m.held (p ∷ cs) → HoldPairs form other (o ∷ os)
        → AreRising (p.0 ∷ keys_of cs) → AreRising (o.0 ∷ keys_of os)
        → m.held ++ both b (p ∷ cs) (o ∷ os) ≡ whole → G) → G
    with_firsts go =
        let f = pair_taken form left m.mine (Some pair) pair refl mine in
        let g = pair_taken form other m.theirs (Some next) next refl theirs in
        go (pair.key.now, f.value) (next.key.now, g.value) f.rest g.rest refl f.is_first g.is_first
        (rw f.split at m.pairs) (rw g.split at m.others) (rw f.split at m.rising) (rw g.split at m.other_rising)
        (rw (f.split, g.split) at m.joined)

    moved : (x : Member) (rest all : List Member) → all ≡ x ∷ rest → m.held ++ all ≡ whole → (m.held ++ x ∷ []) ++ rest ≡ whole
    moved x rest all is j = append_assoc m.held (x ∷ []) rest ∙ ap (λ (l : List Member). m.held ++ l) (sym is) ∙ j

    pub merging_less : slice_cmp nat_cmp pair.key.now next.key.now ≡ Less → Merging form runs run pair.others other b whole
    merging_less e = with_firsts (λ p o cs os at first second opened hold r s is. record {
      held = m.held ++ p ∷ [];
      mine = cs;
      theirs = o ∷ os;
      pairs = pair_kept form runs run left pair m.held cs p opened first;
      others = hold;
      rising = r.1;
      other_rising = s;
      joined = moved p (both b cs (o ∷ os)) _ (both_less p o cs os r s b (at ∙ e)) is;
    })

    pub merging_equal_second : b ≡ true → slice_cmp nat_cmp pair.key.now next.key.now ≡ Equal → Merging form runs run pair.others next.others b whole
    merging_equal_second second e = with_firsts (λ p o cs os at first other_first opened hold r s is. record {
      held = m.held ++ p ∷ [];
      mine = cs;
      theirs = os;
      pairs = pair_kept form runs run left pair m.held cs p opened first;
      others = others_hold form other next os o other_first;
      rising = r.1;
      other_rising = s.1;
      joined = rw second (moved p (both true cs os) _ (both_same p o cs os r s (at ∙ e)) (rw second at is));
    })

    module _ (runs' : PairRuns) (pushed : PairsHeld form runs' m.held) where
      pub merging_equal : b ≡ false → slice_cmp nat_cmp pair.key.now next.key.now ≡ Equal → Merging form runs' other next.others pair.others true whole
      merging_equal second e = with_firsts (λ p o cs os at first other_first opened hold r s is. record {
        held = m.held ++ o ∷ [];
        mine = os;
        theirs = cs;
        pairs = pair_kept form runs' other other next m.held os o
            (pairs_begun form runs' other m.held (o ∷ os) pushed hold) other_first;
        others = others_hold form left pair cs p first;
        rising = s.1;
        other_rising = r.1;
        joined = moved o (both true os cs) _ (both_equal p o cs os r s (at ∙ e)) (rw second at is);
      })

      pub merging_greater : slice_cmp nat_cmp pair.key.now next.key.now ≡ Greater → Merging form runs' other next.others left (not b) whole
      merging_greater e = with_firsts (λ p o cs os at first other_first opened hold r s is. record {
        held = m.held ++ o ∷ [];
        mine = os;
        theirs = p ∷ cs;
        pairs = pair_kept form runs' other other next m.held os o
            (pairs_begun form runs' other m.held (o ∷ os) pushed hold) other_first;
        others = left_holds form runs run left m.held (p ∷ cs) opened;
        rising = s.1;
        other_rising = r;
        joined = moved o (both (not b) os (p ∷ cs)) _ (both_greater p o cs os r s b (at ∙ e)) is;
      })

  -- if not both have a first pair, one has none
  pub merging_ended : (r s : Option FirstPair) → TakesFirstPair form left m.mine r → TakesFirstPair form other m.theirs s
      → ((x y : FirstPair) → r ≡ Some x → s ≡ Some y → ⊥) → (m.held ++ m.mine) ++ m.theirs ≡ whole
  merging_ended r s h e k = grind (arith, append_assoc, no_pair_left, merged_none, append-nil)

-- ---- three objects

module _ (key : List ℕ) (x : Tree) (p : Member) (ps : List Member) where
  insert_less : slice_cmp nat_cmp key p.0 ≡ Less → insert_pair key x (p ∷ ps) ≡ (key, x) ∷ p ∷ ps
  insert_less e = rw e refl

  insert_equal : slice_cmp nat_cmp key p.0 ≡ Equal → insert_pair key x (p ∷ ps) ≡ (p.0, x) ∷ ps
  insert_equal e = rw e refl

  insert_greater : slice_cmp nat_cmp key p.0 ≡ Greater → insert_pair key x (p ∷ ps) ≡ p ∷ insert_pair key x ps
  insert_greater e = rw e refl

-- a pair below all goes to the front
insert_front : (key : List ℕ) (x : Tree) (ps : List Member) → IsBelowFirst key (keys_of ps) → insert_pair key x ps ≡ (key, x) ∷ ps
insert_front key x [] below = refl
insert_front key x (p ∷ ps) below = insert_less key x p ps below

-- pairs of two keys may be inserted in either order
insert_swap : (a : List ℕ) (x : Tree) (b : List ℕ) (y : Tree) (ps : List Member) → slice_cmp nat_cmp a b ≡ Less
    → insert_pair a x (insert_pair b y ps) ≡ insert_pair b y (insert_pair a x ps)
insert_swap a x b y [] less = cc (insert_less a x (b, y) [] less, insert_greater b y (a, x) [] (turned a b Less less))
insert_swap a x b y (p ∷ ps) less =
    go (slice_cmp nat_cmp b p.0) (slice_cmp nat_cmp a p.0) refl refl (insert_swap a x b y ps less)
  where
    greater : slice_cmp nat_cmp b a ≡ Greater
    greater = turned a b Less less

    -- a is below all of them
    first : (after : List Member) → slice_cmp nat_cmp a p.0 ≡ Less → insert_pair b y (p ∷ ps) ≡ after → insert_pair a x after ≡ (a, x) ∷ after
        → insert_pair a x (insert_pair b y (p ∷ ps)) ≡ insert_pair b y (insert_pair a x (p ∷ ps))
    first after f is front = cc (is, front, insert_less a x p ps f, insert_greater b y (a, x) (p ∷ ps) greater)

    go : (o s : Ordering) → slice_cmp nat_cmp b p.0 ≡ o → slice_cmp nat_cmp a p.0 ≡ s
        → insert_pair a x (insert_pair b y ps) ≡ insert_pair b y (insert_pair a x ps)
        → insert_pair a x (insert_pair b y (p ∷ ps)) ≡ insert_pair b y (insert_pair a x (p ∷ ps))
    go Less s e f rest = cc (first ((b, y) ∷ p ∷ ps) (nat_list_cmp_total.trans a b p.0 less e) (insert_less b y p ps e) (insert_less a x (b, y) (p ∷ ps) less))
    go Equal s e f rest =
        let under : slice_cmp nat_cmp a p.0 ≡ Less = turned p.0 a Greater (sym (nat_list_cmp_total.congr b p.0 a e) ∙ greater) in
        first ((p.0, y) ∷ ps) under (insert_equal b y p ps e) (insert_less a x (p.0, y) ps under)
    go Greater Less e f rest = cc (first (p ∷ insert_pair b y ps) f (insert_greater b y p ps e) (insert_less a x p (insert_pair b y ps) f))
    go Greater Equal e f rest =
        cc (insert_greater b y p ps e, insert_equal a x p (insert_pair b y ps) f, insert_equal a x p ps f, insert_greater b y (p.0, x) ps e)
    go Greater Greater e f rest =
        cc (insert_greater b y p ps e, insert_greater a x p (insert_pair b y ps) f, insert_greater a x p ps f, insert_greater b y p (insert_pair a x ps) e)

-- of two pairs with one key the later stays
insert_again : (k : List ℕ) (x y : Tree) (ps : List Member) → insert_pair k x (insert_pair k y ps) ≡ insert_pair k x ps
insert_again k x y [] = insert_equal k x (k, y) [] (bytes_cmp_refl k)
insert_again k x y (p ∷ ps) = go (slice_cmp nat_cmp k p.0) refl (insert_again k x y ps)
  where
    go : (o : Ordering) → slice_cmp nat_cmp k p.0 ≡ o → insert_pair k x (insert_pair k y ps) ≡ insert_pair k x ps
        → insert_pair k x (insert_pair k y (p ∷ ps)) ≡ insert_pair k x (p ∷ ps)
    go o h e = grind (arith, insert_less, insert_equal, bytes_cmp_refl, insert_greater)

-- a pair may be inserted before the others are put together, or after
insert_merged : (key : List ℕ) (x : Tree) (ps qs : List Member) → AreRising (keys_of qs) → insert_pair key x (merged ps qs) ≡ merged ps (insert_pair key x qs)
insert_merged key x ps [] rising = refl
insert_merged key x ps (q ∷ qs) rising =
    go (slice_cmp nat_cmp key q.0) refl (insert_merged key x (insert_pair q.0 q.1 ps) qs rising.1)
  where
    go : (o : Ordering) → slice_cmp nat_cmp key q.0 ≡ o
        → insert_pair key x (merged (insert_pair q.0 q.1 ps) qs) ≡ merged (insert_pair q.0 q.1 ps) (insert_pair key x qs)
        → insert_pair key x (merged ps (q ∷ qs)) ≡ merged ps (insert_pair key x (q ∷ qs))
    go Less e rest =
        rest
        ∙ ap (merged (insert_pair q.0 q.1 ps)) (insert_front key x qs (below_next key q.0 (keys_of qs) e rising.0))
        ∙ ap (λ xs. merged xs qs) (insert_swap key x q.0 q.1 ps e)
        ∙ sym (ap (merged ps) (insert_less key x q qs e))
    go Equal e rest =
        let same : key ≡ q.0 = (bytes_eq-Decides key q.0).0 (test_of_order key q.0 Equal e) in
        rest
        ∙ ap (merged (insert_pair q.0 q.1 ps)) (insert_front key x qs (subst (λ k. IsBelowFirst k (keys_of qs)) (sym same) rising.0))
        ∙ ap (λ k. merged (insert_pair k x (insert_pair q.0 q.1 ps)) qs) same
        ∙ ap (λ xs. merged xs qs) (insert_again q.0 x q.1 ps)
        ∙ sym (ap (merged ps) (insert_equal key x q qs e))
    go Greater e rest = rest ∙ sym (ap (merged ps) (insert_greater key x q qs e))

pub merged_assoc : (ps qs rs : List Member) → AreRising (keys_of qs) → merged (merged ps qs) rs ≡ merged ps (merged qs rs)
merged_assoc ps qs [] rising = refl
merged_assoc ps qs (r ∷ rs) rising = cc (insert_merged r.0 r.1 ps qs rising, merged_assoc ps (insert_pair r.0 r.1 qs) rs (rising_inserted r.0 r.1 qs rising))
