-- Steps along pairs whose keys are sorted, and runs of those that have a name or have none.
use Rattle.jsonb_raw.proofs.Common.{◌≡◌, ◌-◌, ◌<◌, All-set, All-replicate, length-set, replicate, slice_set, slice_index_or, between_to_end, KeyTable, IsTableOf, drop_at, entry_word, kind_number, IsWithinAll, IsStartOf, IsBlockStart, ℕ, true, false, List, [], ◌∷◌, Option, Some, None, Ordering, refl, sym, ◌∙◌, option_copied, Bor, ◌+◌, Bool, ◌++◌, length, take, drop, map, ap, arith, append_assoc, length-append, IsUtf8, slice_cmp, nat_list_cmp_total, AllByRecursion, IsStrictlySortedBy, deref, IsBelowFirst, AreKeys, TextSet, is_in, with_pairs, first_and_others, is_among, IsNotBelow, DecideFrom, DecideForKeys, PartsFirst, all_or_none, keys_of, values_of, beq, Tree, text, object, Pairs, members, Form, Entries, StoredEntry, PairEntries, PairRuns, parted, HoldTrees, HoldPairs, ArePairsOf, TakesFirst, PairsHeld, Result, Ok, Err, subst, not, bytes_eq, ordering_reverse, is_eq-slice_cmp, no_pairs, pair, keys, value_under, AreRising, keys_rise, pairs_above, below_next, list_any, Error, HasEntriesLeft, GivesEntry, TakesEntry, key_trees, IsCursorOf, IsPassed, has_by, KeyCursor, has_text, Less, Equal, Greater, nat_cmp, is_eq, IsGetRangeResult, AreLast, IsHint, AreHints, BeginAt, PassesOver, EntryStart, StartSlot}
use Rattle.std.specs.Map.Iter.{TakesFirst as TakesName}
use Rattle.jsonb_raw.proofs.RunLemmas.{Member}

pub test_of_order : (k key : List ℕ) (o : Ordering) → slice_cmp nat_cmp k key ≡ o → bytes_eq k key ≡ is_eq o
test_of_order k key o e = sym (is_eq-slice_cmp k key) ∙ ap is_eq e

pub turned : (k key : List ℕ) (o : Ordering) → slice_cmp nat_cmp k key ≡ o → slice_cmp nat_cmp key k ≡ ordering_reverse o
turned k key o e = nat_list_cmp_total.antisymm key k ∙ ap ordering_reverse e

pub same_below : (k key : List ℕ) (ks : List (List ℕ)) → slice_cmp nat_cmp k key ≡ Equal → IsBelowFirst k ks → IsBelowFirst key ks
same_below k key ks h e = grind (arith, nat_list_cmp_total)

-- a key below all of them is none of them
pub no_value : (key : List ℕ) (ps : Pairs) → IsBelowFirst key (keys ps) → AreRising (keys ps) → value_under key ps ≡ None
no_value key no_pairs below rising = refl
no_value key (pair k t ps) below rising = grind (arith, test_of_order, turned, below_next, no_value key ps (below_next key k (keys ps) below rising.0) rising.1)

pub all_above : (key : List ℕ) (ps : Pairs) → IsBelowFirst key (keys ps) → AreRising (keys ps) → pairs_above key ps ≡ ps
all_above key no_pairs below rising = refl
all_above key (pair k t ps) below rising = grind (arith, turned, below_next, all_above key ps (below_next key k (keys ps) below rising.0) rising.1)

module _ (key k : List ℕ) (t : Tree) (ps : Pairs) where
  pub value_after_less : slice_cmp nat_cmp k key ≡ Less → value_under key (pair k t ps) ≡ value_under key ps
  value_after_less e = rw (test_of_order k key Less e) refl

  pub value_at_equal : slice_cmp nat_cmp k key ≡ Equal → value_under key (pair k t ps) ≡ Some t
  value_at_equal e = rw (test_of_order k key Equal e) refl

-- ---- how a cursor goes on along keys

-- a key below all of them is none of them
none_below : (key : List ℕ) (ks : List (List ℕ)) → IsBelowFirst key ks → AreRising ks → list_any (λ k. bytes_eq k key) ks ≡ false
none_below key [] below rising = refl
none_below key (k ∷ ks) below rising = grind (arith, test_of_order, turned, below_next, none_below key ks (below_next key k ks below rising.0) rising.1)

module _ (form : Form) (ks : List (List ℕ)) (c : KeyCursor) (ahead' : Entries) (h : IsCursorOf form c ks) where
  module _ (r : Result StoredEntry Error) (x : StoredEntry) (e : r ≡ Ok x) (n : GivesEntry c.left (Some r) ahead') where
    -- the key that was given is the first of those after the cursor
    pub record FirstKey : Type 0 where
      pub others : List (List ℕ)
      pub whole : h.behind ≡ x.content.now ∷ others
      pub left : HasEntriesLeft form ahead' (key_trees others)

    pub first_key : FirstKey
    first_key = go h.behind refl
        (subst (λ (y : Result StoredEntry Error). TakesEntry form (key_trees h.behind) (Some y) ahead') e (n.takes form (key_trees h.behind) h.left))
      where
        go : (behind : List (List ℕ)) → h.behind ≡ behind → TakesEntry form (key_trees behind) (Some (Ok x)) ahead' → FirstKey
        go [] is t = absurd t
        go (k ∷ rest) is t = record { others = rest; whole = is ∙ ap (λ (l : List ℕ). l ∷ rest) (sym t.0.content.1); left = t.1 }

    pub cursor_next : IsCursorOf form (record { all = c.all; left = ahead'; last_key = Some x.content }) ks
    cursor_next = grind (arith, first_key, test_of_order, nat_list_cmp_total)

    -- the key is the name
    pub cursor_meets : (name : List ℕ) → IsPassed c.last_key name → slice_cmp nat_cmp x.content.now name ≡ Equal → true ≡ list_any (λ key. bytes_eq key name) ks
    cursor_meets name passed same =
        let f = first_key in
        rw (f.whole, test_of_order x.content.now name Equal same) at (h.decides name passed)

    -- the key is above the name, and so are those after it
    pub cursor_misses : (name : List ℕ) → IsPassed c.last_key name → slice_cmp nat_cmp x.content.now name ≡ Greater
        → false ≡ list_any (λ key. bytes_eq key name) ks
    cursor_misses name passed above =
        let f = first_key in
        let rising = keys_rise (x.content.now ∷ f.others) (rw f.whole at h.are_keys) in
        let none : list_any (λ key. bytes_eq key name) (x.content.now ∷ f.others)
        ≡ false = none_below name (x.content.now ∷ f.others) (turned x.content.now name Greater above) rising in
        sym none ∙ (rw f.whole at (h.decides name passed))

  -- no key is after the cursor
  pub cursor_ends : GivesEntry c.left None ahead' → (name : List ℕ) → IsPassed c.last_key name → false ≡ list_any (λ key. bytes_eq key name) ks
  cursor_ends n name passed = go h.behind (n.takes form (key_trees h.behind) h.left) (h.decides name passed)
    where
      go : (behind : List (List ℕ)) → TakesEntry form (key_trees behind) None ahead'
          → list_any (λ key. bytes_eq key name) behind ≡ list_any (λ key. bytes_eq key name) ks → false ≡ list_any (λ key. bytes_eq key name) ks
      go [] t whole = whole
      go (k ∷ rest) t whole = absurd t

  -- no error is given while keys are left
  pub cursor_error : {G : Type 0} (r : Result StoredEntry Error) (error : Error) → r ≡ Err error → GivesEntry c.left (Some r) ahead' → G
  cursor_error r error e n = grind arith

-- ---- where blocks of keys begin

-- what follows the front of a list
after_front : (all front rest : List ℕ) → all ≡ front ++ rest → drop (length all - length rest) all ≡ rest
after_front all front rest is = grind (arith, drop_at, length-append)

pub last_all : (all : Entries) → AreLast all all
last_all all = record { words_before = []; words = refl; contents_before = []; contents = refl }

-- the remaining entries are still the last of all after one of them
pub last_next : (all left ahead : Entries) (x : StoredEntry) → AreLast all left → GivesEntry left (Some (Ok x)) ahead → AreLast all ahead
last_next all left ahead x h n = record {
  words_before = h.words_before ++ entry_word (kind_number x.kind) (length x.content.now);
  words = h.words ∙ ap (λ (ws : List ℕ). h.words_before ++ ws) n.reads.words_joined ∙ sym (append_assoc h.words_before _ ahead.words.now);
  contents_before = h.contents_before ++ x.content.now;
  contents = h.contents ∙ ap (λ (cs : List ℕ). h.contents_before ++ cs) n.reads.contents_joined ∙ sym (append_assoc h.contents_before _ ahead.contents.now);
}

-- the start of the first entry
pub front_hint : (all : Entries) → IsHint all (record { words = 0; contents = 0 })
front_hint all = record {
  passes = λ left b. record { others = λ form ts h. (ts, record { entries = rw (b.0, b.1) h.entries }, λ test e. e) };
}

-- the start of some of the last entries
pub hint_stored : (all left : Entries) (start : EntryStart) → AreLast all left → PassesOver all left → IsStartOf start all left → IsHint all start
hint_stored all left start last passes at = record {
  passes = λ other b.
      let words : other.words.now ≡ left.words.now = b.0 ∙ rw at.0 (after_front all.words.now last.words_before left.words.now last.words) in
      let contents : other.contents.now ≡ left.contents.now =
      b.1 ∙ rw at.1 (after_front all.contents.now last.contents_before left.contents.now last.contents) in
      record {
        others = λ form ts h.
            let p = passes.others form ts h in
            (p.0, record { entries = rw (words, contents) p.1.entries }, p.2);
      };
}

-- a search from a stored start
pub hint_at : (all left : Entries) (slots : List StartSlot) (k : ℕ) (d : StartSlot) → AreHints all slots → k < length slots
    → BeginAt (slice_index_or slots k d).start all left → PassesOver all left
hint_at all left slots k d hints within b = (hints k d within).passes left b

-- a slot with the start of another one
pub hint_kept : (all : Entries) (slots : List StartSlot) (k : ℕ) (slot : StartSlot) → AreHints all slots → IsHint all slot.start
    → AreHints all (slice_set slots k slot)
hint_kept all slots k slot hints is = All-set (λ (s : StartSlot). IsHint all s.start) slots k slot is hints

-- free slots
pub free_hints : (all : Entries) (n : ℕ) → AreHints all (replicate n (record { start = record { words = 0; contents = 0 }; mark = 0; bits = 0 }))
free_hints all n = All-replicate (λ (s : StartSlot). IsHint all s.start) n _ (front_hint all)

-- a block begins at the remaining keys of a cursor
pub start_stored : (form : Form) (all : Entries) (ks : List (List ℕ)) (c : KeyCursor) (start : EntryStart) → IsCursorOf form c ks → IsWithinAll c → c.all ≡ all
    → IsStartOf start c.all c.left → IsBlockStart form all ks start
start_stored form all ks c start is h whole at = record {
  cursor = c;
  is_cursor = is;
  words = rw (at.0, ← whole) (after_front c.all.words.now h.words_before c.left.words.now h.words);
  contents = rw (at.1, ← whole) (after_front c.all.contents.now h.contents_before c.left.contents.now h.contents);
}

-- a table in which that start of a block is stored
pub table_stored : (form : Form) (ks : List (List ℕ)) (t : KeyTable) (block known : ℕ) (start : EntryStart) → IsTableOf form t ks
    → IsBlockStart form t.all ks start
    → IsTableOf form (record { all = t.all; near = t.near; starts = slice_set t.starts block start; known = known }) ks
table_stored form ks t block known start h is = record {
  all = h.all;
  near = h.near;
  starts = All-set (IsBlockStart form t.all ks) t.starts block start is h.starts;
  size = length-set t.starts block start ∙ h.size;
}

-- the start that the table has at an index
pub start_at : (form : Form) (ks : List (List ℕ)) (t : KeyTable) (block : ℕ) (start : EntryStart) → IsTableOf form t ks → block < length t.starts
    → start ≡ slice_index_or t.starts block start → IsBlockStart form t.all ks start
start_at form ks t block start h within is = subst (IsBlockStart form t.all ks) (sym is) (h.starts block start within)

-- what follows that many bytes
pub bytes_behind : (bytes : List ℕ) (n : ℕ) (x : Bor (List ℕ)) → IsGetRangeResult bytes n (length bytes) (Some x) → x.now ≡ drop n bytes
bytes_behind bytes n x h = h.0.2 ∙ between_to_end bytes n (length bytes) (omega arith)

-- the cursor after the first key of a block
pub block_cursor : (form : Form) (all : Entries) (ks : List (List ℕ)) (start : EntryStart) (left ahead : Entries) (x : StoredEntry)
    → HasEntriesLeft form all (key_trees ks) → IsBlockStart form all ks start → left.words.now ≡ drop start.words all.words.now
    → left.contents.now ≡ drop start.contents all.contents.now → GivesEntry left (Some (Ok x)) ahead
    → IsCursorOf form (record { all = all; left = ahead; last_key = Some x.content }) ks
block_cursor form all ks start left ahead x whole b ws cs n =
    let c : KeyCursor = record { all = all; left = left; last_key = b.cursor.last_key } in
    let k = b.is_cursor in
    let is : IsCursorOf form c ks = record {
      all_keys = k.all_keys;
      all = whole;
      behind = k.behind;
      are_keys = k.are_keys;
      left = record { entries = rw (ws, cs, b.words, b.contents) k.left.entries };
      before = k.before;
      decides = k.decides;
    } in
    cursor_next form ks c ahead is (Ok x) x refl n

-- ---- one more that is tested

-- a name that decides
pub decided : (found has : Bool) (t : Tree) (name : List ℕ) (names : List (List ℕ)) (all : Bool) → beq has found ≡ true → has ≡ has_text name t
    → has_by found (name ∷ names) t ≡ all → found ≡ all
decided found has t name names all h k e = grind arith

-- a name that leaves it to the others
pub left_open : (found has : Bool) (t : Tree) (name : List ℕ) (names : List (List ℕ)) (all : Bool) → beq has found ≡ false → has ≡ has_text name t
    → has_by found (name ∷ names) t ≡ all → has_by found names t ≡ all
left_open found has t name names all h k e = grind arith

-- no name is left
pub none_decided : (found : Bool) (t : Tree) → has_by found [] t ≡ not found
none_decided found t = grind arith

-- the first of the names that an iterator had left, and the others
pub name_taken : (names others : List (Bor (List ℕ))) (r : Option (Bor (Bor (List ℕ)))) (first : Option (Bor (List ℕ))) → first ≡ option_copied r
    → TakesName deref names r others → first_and_others first others ≡ names
name_taken h k e = grind arith

-- no key is below itself
pub not_below_itself : (key : List ℕ) → IsNotBelow key key
not_below_itself key less = let flip = turned key key Less less in cc

-- a name below the key is none of the keys from it on
other_name : (key later : List ℕ) (name : Bor (List ℕ)) → slice_cmp nat_cmp name.now key ≡ Less → IsNotBelow key later
    → is_eq (slice_cmp nat_cmp later name.now) ≡ false
other_name key later name less above = go (slice_cmp nat_cmp later name.now) refl
  where
    go : (o : Ordering) → slice_cmp nat_cmp later name.now ≡ o → is_eq o ≡ false
    go Less e = refl
    go Equal e = absurd (above (nat_list_cmp_total.congr later name.now key e ∙ less))
    go Greater e = refl

-- the first name, which is below the key, is passed
pub first_passed : (set : TextSet) (key : List ℕ) (names left : List (Bor (List ℕ))) (name : Bor (List ℕ)) → Less ≡ slice_cmp nat_cmp name.now key
    → DecideFrom set key (name ∷ left) → names ≡ left → DecideFrom set key names
unfolding IsStrictlySortedBy
first_passed set key names left name below d is = grind (arith, other_name)

none_above : (key name : List ℕ) (others : List (Bor (List ℕ))) → slice_cmp nat_cmp key name ≡ Less
    → AllByRecursion (λ (other : Bor (List ℕ)). slice_cmp nat_cmp name other.now ≡ Less) others → is_among key others ≡ false
none_above key name [] below all = refl
none_above key name (other ∷ others) below all = grind (arith, nat_list_cmp_total, none_above key name others below all.1)

module _ (set : TextSet) (key : List ℕ) (name : Bor (List ℕ)) (names : List (Bor (List ℕ))) (d : DecideFrom set key (name ∷ names)) where
  -- the first name is the key
  pub first_found : Equal ≡ slice_cmp nat_cmp name.now key → true ≡ is_in set key
  first_found e = rw (d.agree key (not_below_itself key)) (rw (turned name.now key Equal (sym e)) refl)

  -- the first name is above the key, and so are the others
  pub first_above : Greater ≡ slice_cmp nat_cmp name.now key → false ≡ is_in set key
  unfolding IsStrictlySortedBy
  first_above e =
      let below : slice_cmp nat_cmp key name.now ≡ Less = turned name.now key Greater (sym e) in
      rw (d.agree key (not_below_itself key)) (rw below (sym (none_above key name.now names below d.sorted.0)))

-- ---- names and keys

pub names_begun : (set : TextSet) (names : List (Bor (List ℕ))) (ks : List (List ℕ)) → ((key : List ℕ) → DecideFrom set key names)
    → DecideForKeys set names ks
names_begun set names [] d = tt
names_begun set names (key ∷ ks) d = d key

-- after a key the names decide for the keys above it
pub names_passed : (set : TextSet) (names : List (Bor (List ℕ))) (key : List ℕ) (ks : List (List ℕ)) → IsBelowFirst key ks → DecideFrom set key names
    → DecideForKeys set names ks
names_passed set names key ks h e = grind (arith, nat_list_cmp_total)

-- ---- members that are all in the set, or all not

parted_first : (wanted is : Bool) (set : TextSet) (p : Member) (ps : List Member) → is_in set p.0 ≡ is
    → parted wanted set (p ∷ ps) ≡ all_or_none (beq is wanted) (p ∷ []) ++ parted wanted set ps
parted_first wanted is set p ps h = grind arith

none_of_none : (b : Bool) → all_or_none b [] ≡ []
none_of_none b = grind arith

both_runs : (b : Bool) (xs ys : List Member) → all_or_none b xs ++ all_or_none b ys ≡ all_or_none b (xs ++ ys)
both_runs b xs ys = grind arith

-- no member is in the run yet
run_begun : (form : Form) (set : TextSet) (names : List (Bor (List ℕ))) (is : Bool) (left : Entries) (ps : List Member)
    → HoldTrees form left (map text (keys_of ps)) → AreKeys (keys_of ps) → DecideForKeys set names (keys_of ps) → PartsFirst form set names is 0 left ps
run_begun form set names is left ps hold are_keys decide = record {
  run = [];
  others = ps;
  joined = refl;
  size = refl;
  parts = λ wanted. rw (none_of_none (beq is wanted)) refl;
  hold = hold;
  are_keys = are_keys;
  decide = decide;
}

-- Holds if the first member has this key.
pub record NextMember (form : Form) (ps : List Member) (key : List ℕ) (left : Entries) : Type 0 where
  pub p : Member
  pub rest : List Member
  pub split : ps ≡ p ∷ rest
  pub is_key : p.0 ≡ key
  pub hold : HoldTrees form left (map text (keys_of rest))

pub next_member : (form : Form) (entries : Entries) (ps : List Member) (found : Option (StoredEntry × Entries)) (entry : StoredEntry) (others : Entries)
    → found ≡ Some (entry, others) → TakesFirst form entries (map text (keys_of ps)) found → NextMember form ps entry.content.now others
next_member form entries [] found entry others is h = absurd (rw is at h)
next_member form entries (p ∷ ps) found entry others is h =
    let taken : TakesFirst form entries (map text (keys_of (p ∷ ps))) (Some (entry, others)) = rw is at h in
    record { p = p; rest = ps; split = refl; is_key = sym taken.part.1; hold = taken.others_hold }

pub no_member_left : (form : Form) (entries : Entries) (ps : List Member) (found : Option (StoredEntry × Entries)) → found ≡ None
    → TakesFirst form entries (map text (keys_of ps)) found → ps ≡ []
no_member_left form entries [] found is h = refl
no_member_left form entries (p ∷ ps) found is h = absurd (rw is at h)

module _ (form : Form) (set : TextSet) (names : List (Bor (List ℕ))) (is : Bool) (count : ℕ) (left : Entries) (ps : List Member)
    (m : PartsFirst form set names is count left ps) (key : List ℕ) (others : Entries) (n : NextMember form m.others key others) where
  pub key_decided : DecideFrom set key names
  key_decided = let d : DecideFrom set n.p.0 names = rw n.split at m.decide in rw n.is_key at d

  pub key_is_utf8 : IsUtf8 key
  key_is_utf8 = let u : IsUtf8 n.p.0 = (rw n.split at m.are_keys).0.0 in rw n.is_key at u

  -- one member more is in the run
  pub run_more : (names' : List (Bor (List ℕ))) → DecideFrom set key names' → is_in set key ≡ is → PartsFirst form set names' is (count + 1) others ps
  run_more names' decide same = record {
    run = m.run ++ n.p ∷ [];
    others = n.rest;
    joined = m.joined ∙ ap (λ (l : List Member). m.run ++ l) n.split ∙ sym (append_assoc m.run (n.p ∷ []) n.rest);
    size = omega (arith, m.size, length-append m.run (n.p ∷ []));
    parts = λ wanted.
        let b = beq is wanted in
        let here : is_in set n.p.0 ≡ is = rw n.is_key same in
        m.parts wanted ∙ ap (λ (l : List Member). all_or_none b m.run ++ parted wanted set l) n.split
        ∙ ap (λ (l : List Member). all_or_none b m.run ++ l) (parted_first wanted is set n.p n.rest here)
        ∙ sym (append_assoc (all_or_none b m.run) (all_or_none b (n.p ∷ [])) (parted wanted set n.rest))
        ∙ ap (λ (l : List Member). l ++ parted wanted set n.rest) (both_runs b m.run (n.p ∷ []));
    hold = n.hold;
    are_keys = (rw n.split at m.are_keys).2;
    decide = names_passed set names' n.p.0 (keys_of n.rest) (rw n.split at m.are_keys).1 (rw n.is_key decide);
  }

-- the run begins with the first member
pub run_first : (form : Form) (set : TextSet) (names : List (Bor (List ℕ))) (is : Bool) (left : Entries) (ps : List Member)
    → HoldTrees form left (map text (keys_of ps)) → AreKeys (keys_of ps) → DecideForKeys set names (keys_of ps) → (key : List ℕ) (others : Entries)
    → NextMember form ps key others → (names' : List (Bor (List ℕ))) → (DecideFrom set key names → DecideFrom set key names')
    → (IsUtf8 key → DecideFrom set key names → is ≡ is_in set key) → PartsFirst form set names' is 1 others ps
unfolding run_begun
run_first form set names is left ps hold are_keys decide key others n names' behind found =
    let m = run_begun form set names is left ps hold are_keys decide in
    let decided : DecideFrom set key names = key_decided form set names is 0 left ps m key others n in
    run_more form set names is 0 left ps m key others n names' (behind decided)
    (sym (found (key_is_utf8 form set names is 0 left ps m key others n) decided))

-- ---- the runs that are kept

take_keys : (run others : List Member) → take (length run) (map text (keys_of (run ++ others))) ≡ map text (keys_of run)
take_keys [] others = refl
take_keys (p ∷ run) others = ap (λ (ts : List Tree). text p.0 ∷ ts) (take_keys run others)

take_values : (run others : List Member) → take (length run) (values_of (run ++ others)) ≡ values_of run
take_values [] others = refl
take_values (p ∷ run) others = ap (λ (ts : List Tree). p.1 ∷ ts) (take_values run others)

drop_values : (run others : List Member) → drop (length run) (values_of (run ++ others)) ≡ values_of others
drop_values [] others = refl
drop_values (p ∷ run) others = drop_values run others

-- The pairs that are kept, followed by what the set leaves of the others, are the whole. The names that are left decide
-- for the others.
pub record Parting (form : Form) (runs : PairRuns) (left : PairEntries) (wanted : Bool) (set : TextSet) (names : List (Bor (List ℕ)))
    (whole : List Member) : Type 0 where
  pub held : List Member
  pub rest : List Member
  pub runs_hold : PairsHeld form runs held
  pub pairs : HoldPairs form left rest
  pub joined : held ++ parted wanted set rest ≡ whole
  pub decide : DecideForKeys set names (keys_of rest)
  pub are_keys : AreKeys (keys_of rest)

pub parting_begun : (form : Form) (runs : PairRuns) (pairs : PairEntries) (wanted : Bool) (set : TextSet) (names : List (Bor (List ℕ)))
    (ps : List Member) → runs.keys.items ≡ [] → runs.values.items ≡ [] → HoldPairs form pairs ps → DecideForKeys set names (keys_of ps)
    → AreKeys (keys_of ps) → Parting form runs pairs wanted set names (parted wanted set ps)
parting_begun form runs pairs wanted set names ps keys_none values_none h decide are_keys = record {
  held = [];
  rest = ps;
  runs_hold = grind arith;
  pairs = h;
  joined = refl;
  decide = decide;
  are_keys = are_keys;
}

module _ (form : Form) (runs : PairRuns) (left : PairEntries) (wanted : Bool) (set : TextSet) (names : List (Bor (List ℕ))) (whole : List Member)
    (m : Parting form runs left wanted set names whole) where
  module _ (names' : List (Bor (List ℕ))) (is : Bool) (count : ℕ) (others : PairEntries)
      (f : PartsFirst form set names' is count others.keys m.rest) (behind : HoldTrees form others.values (drop count (values_of m.rest))) where
    -- the members of the run
    pub run_hold : (run : PairEntries) → HoldTrees form run.keys (take count (map text (keys_of m.rest)))
        → HoldTrees form run.values (take count (values_of m.rest)) → HoldPairs form run f.run
    run_hold run names parts = grind (arith, take_keys, take_values)

    -- the runs after this one
    pub parting_on : (runs' : PairRuns) → PairsHeld form runs' (m.held ++ all_or_none (beq is wanted) f.run)
        → Parting form runs' others wanted set names' whole
    parting_on runs' held = grind (arith, drop_values, append_assoc)

-- ---- objects by their entries

pub pairs_there : (form : Form) (t : Tree) (found : Option PairEntries) (pairs : PairEntries) → found ≡ Some pairs → ArePairsOf form t found
    → (ps : Pairs) × (t ≡ object ps) × HoldPairs form pairs (members ps)
pairs_there form t found pairs h e = grind arith

pub no_pairs_there : (form : Form) (t : Tree) (found : Option PairEntries) (change : List Member → List Member) → found ≡ None → ArePairsOf form t found
    → with_pairs change t ≡ None
no_pairs_there form t found change h k = grind arith
