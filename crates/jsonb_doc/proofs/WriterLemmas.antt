-- Entries as they are stored: the first one, and the first `n` of them; containers that are being written: begun, gone on with, closed.
use Rattle.jsonb_doc.proofs.Common.{◌≡◌, ◌≢◌, ℕ, zero, suc, min, ◌*◌, ◌-◌, List, [], ◌∷◌, ◌++◌, length, take, drop, Some, ap, ◌∙◌, arith, ap₂, cases_lt, take_all, drop_all, append_assoc, ◌≤◌, length-append, take_at, drop_at, Tree, trees_of, NumberReader, Form, number_reader, AreEntries, BeginWith, entry_word, kind_number, Entries, StoredEntry, HoldTrees, TakesFirst, StandBefore, ◌+◌, ◌^◌, ◌<◌, map, refl, sym, subst, values_of, length-take, take-append-drop, text, pairs_of, tree, no_trees, Decodes, IsContent, AreValues, AreKeys, header, key_words, key_bytes, container_entry, header_number, HeaderKind, OpenContainer, RunsHold, words_of_runs, contents_of_runs, Make, AreSortedKeys, IsOpen, length-values_of, length-keys_of, common_steps, append-nil, length-drop}
use Rattle.jsonb_doc.proofs.Entries.{BeginWith-unique, kind_below}
use Rattle.jsonb_doc.proofs.Containers.{length-words}
use Rattle.jsonb_doc.proofs.TreeLists.{count-trees_of, keys-pairs_of}
use Rattle.jsonb_doc.specs.declared.layout.HeaderKind.TheVariants.{Object}
use Rattle.jsonb_doc.specs.Private.Writer.{AreAround}
use Rattle.jsonb_doc.proofs.Basics.{many_keys}

pub entry_count : (form : Form) (run : Entries) (ts : List Tree) → HoldTrees form run ts → length run.words.now ≡ 4 * length ts
entry_count form run ts h = omega (arith, length-words (number_reader form) (trees_of ts) run.words.now run.contents.now h.entries, count-trees_of ts)

-- what is read is the first of the trees
pub first_read : (form : Form) (run others : Entries) (ts : List Tree) (entry : StoredEntry) → HoldTrees form run ts
    → BeginWith run.words.now run.contents.now (kind_number entry.kind) entry.content.now others.words.now others.contents.now
    → TakesFirst form run ts (Some (entry, others))
first_read form run others [] entry h begin = omega (arith, ap length h.entries.0, ap length begin.words_joined)
first_read form run others (t ∷ ts) entry h begin =
    let e = h.entries in
    let same = BeginWith-unique run.words.now run.contents.now (kind_number entry.kind)
    e.kind entry.content.now e.content others.words.now e.other_words
    others.contents.now e.other_contents begin e.begin in
    record { part = rw (same.0, same.1) e.part; begin = begin; others_hold = record { entries = rw (same.2, same.3) e.others } }

-- a run that is not empty begins with an entry
pub first_there : (form : Form) (run : Entries) (ts : List Tree) → HoldTrees form run ts → length run.words.now ≢ 0
    → ((kind : ℕ) (content ws cs : List ℕ) → BeginWith run.words.now run.contents.now kind content ws cs → ⊥) → ⊥
first_there form run [] h some none = some (ap length h.entries.0)
first_there form run (t ∷ ts) h some none = none h.entries.kind h.entries.content h.entries.other_words h.entries.other_contents h.entries.begin

-- the first `n` entries, and those after them
pub record SplitAt (number_at : NumberReader) (n : ℕ) (ts : List Tree) (words contents : List ℕ) : Type 0 where
  pub front_contents : List ℕ
  pub back_contents : List ℕ
  pub contents_joined : contents ≡ front_contents ++ back_contents
  pub front : AreEntries number_at (trees_of (take n ts)) (take (4 * n) words) front_contents
  pub back : AreEntries number_at (trees_of (drop n ts)) (drop (4 * n) words) back_contents
  pub parts : List (List ℕ)
  pub stand : StandBefore parts (take (4 * n) words) contents back_contents

pub split_at : (number_at : NumberReader) (n : ℕ) (ts : List Tree) (words contents : List ℕ) → AreEntries number_at (trees_of ts) words contents
    → SplitAt number_at n ts words contents
split_at number_at zero ts words contents h = grind arith
split_at number_at (suc n) [] words contents h = grind (arith, take_all, drop_all)
split_at number_at (suc n) (t ∷ ts) words contents e =
    let s = split_at number_at n ts e.other_words e.other_contents e.others in
    let four : 4 * suc n ≡ suc (suc (suc (suc (4 * n)))) = omega arith in
    let taken : take (4 * suc n) words ≡ entry_word e.kind (length e.content) ++ take (4 * n) e.other_words =
    ap₂ take four e.begin.words_joined in
    let dropped : drop (4 * suc n) words ≡ drop (4 * n) e.other_words = ap₂ drop four e.begin.words_joined in
    record {
      front_contents = e.content ++ s.front_contents;
      back_contents = s.back_contents;
      contents_joined = grind (arith, append_assoc);
      front = grind arith;
      back = rw dropped s.back;
      parts = e.content ∷ s.parts;
      stand = grind arith;
    }

module _ (form : Form) (run : Entries) (ts : List Tree) (n m : ℕ) (h : HoldTrees form run ts) (few : m ≡ min n (length ts)) where
  cut : SplitAt (number_reader form) m ts run.words.now run.contents.now
  cut = split_at (number_reader form) m ts run.words.now run.contents.now h.entries

  -- the contents are at least as long as the words of the first entries state
  pub contents_there : (w : List ℕ) → w ≡ take (4 * m) run.words.now
      → ((parts : List (List ℕ)) (rest : List ℕ) → StandBefore parts w run.contents.now rest → ⊥) → ⊥
  contents_there w is none = none cut.parts cut.back_contents (rw is cut.stand)

  pub both_hold : (front back : Entries) → front.words.now ≡ take (4 * m) run.words.now → back.words.now ≡ drop (4 * m) run.words.now
      → ((parts : List (List ℕ)) (rest : List ℕ) → StandBefore parts front.words.now run.contents.now rest → back.contents.now ≡ rest)
      → front.contents.now ≡ take (length run.contents.now - length back.contents.now) run.contents.now
      → HoldTrees form front (take n ts) × HoldTrees form back (drop n ts)
  both_hold front back h e k f = grind (arith, cases_lt, take_all, drop_all, cut, length-append, take_at)

-- ---- entries one after the other

pub entries_append : (number_at : NumberReader) (xs ys : List Tree) (w c v d : List ℕ) → AreEntries number_at (trees_of xs) w c
    → AreEntries number_at (trees_of ys) v d → AreEntries number_at (trees_of (xs ++ ys)) (w ++ v) (c ++ d)
entries_append number_at [] ys w c v d h g = rw (h.0, h.1) g
entries_append number_at (x ∷ xs) ys w c v d e g = search (arith, entries_append number_at xs ys e.other_words e.other_contents v d e.others g, append_assoc)

pub one_entry : (number_at : NumberReader) (t : Tree) (kind : ℕ) (content : List ℕ) → IsContent number_at t kind content → length content < 2 ^ 28
    → AreEntries number_at (tree t no_trees) (entry_word kind (length content)) content
one_entry number_at t kind content h e = grind (arith, kind_below, append-nil)

-- ---- a container is begun

pub entries_object : (kind : HeaderKind) (n : ℕ) (ts : List Tree) (t : Tree) → kind ≡ Object → Make kind n ts t → 2 * n ≡ length ts
entries_object kind n ts t h e = grind (arith, length-append, values_of, many_keys, length-values_of)

-- a container that is opened
pub opened : (form : Form) (kind : HeaderKind) (n : ℕ) (ts : List Tree) (t : Tree) (before one out : List ℕ) (at : OpenContainer) (zeros : List ℕ)
    → Make kind n ts t → n < 2 ^ 29 → at.start ≡ length before → at.word ≡ length one → one ≡ before ++ header (header_number kind) n → out ≡ one ++ zeros
    → length zeros ≡ 4 * length ts
    → IsOpen form before out at ts t
opened form kind n ts t before one out at zeros makes few start word first second room = record {
  kind = kind;
  total = n;
  few = few;
  made = [];
  words = [];
  contents = [];
  room = zeros;
  start_is = start;
  word_is = omega (arith, word, ap length first, length-append before (header (header_number kind) n));
  joined = grind (arith, append_assoc, append-nil);
  room_is = room;
  held = (refl, refl);
  makes = makes;
}

-- ---- entries are appended

-- words over the first of the room
splice : (before head words room contents added new old after : List ℕ) (word : ℕ) → length head ≡ 4 → word ≡ length before + 4 + length words
    → length new ≤ length room → old ≡ (before ++ (head ++ ((words ++ room) ++ contents))) ++ added
    → after ≡ take word old ++ (new ++ drop (word + length new) old)
    → after ≡ before ++ (head ++ (((words ++ new) ++ drop (length new) room) ++ (contents ++ added)))
splice before head words room contents added new old after word four at fits is set =
    let front = before ++ (head ++ words) in
    let r1 = take (length new) room in
    let r2 = drop (length new) room in
    let len_front : length front ≡ word = omega (arith, length-append before (head ++ words), length-append head words, four, at) in
    let len_r1 : length r1 ≡ length new = omega (arith, length-take (length new) room, fits) in
    let whole : old ≡ front ++ (r1 ++ (r2 ++ (contents ++ added))) = is
    ∙ ap (λ (l : List ℕ). (before ++ (head ++ ((words ++ l) ++ contents))) ++ added) (sym (take-append-drop (length new) room)) ∙ simp append_assoc in
    let whole' : old ≡ (front ++ r1) ++ (r2 ++ (contents ++ added)) = whole ∙ sym (append_assoc front r1 (r2 ++ (contents ++ added))) in
    let dropped : drop (word + length new) old ≡ r2 ++ (contents ++ added) = ap (drop (word + length new)) whole'
    ∙ drop_at (front ++ r1) (r2 ++ (contents ++ added)) (word + length new) (omega (arith, length-append front r1, len_front, len_r1)) in
    set ∙ joined (ap (take word) whole ∙ take_at front (r1 ++ (r2 ++ (contents ++ added))) word len_front) dropped ∙ simp append_assoc
  where
    joined : {a b x y : List ℕ} → a ≡ x → b ≡ y → a ++ (new ++ b) ≡ x ++ (new ++ y)
    joined e f = rw (e, f) refl

module _ (form : Form) (before out : List ℕ) (at : OpenContainer) (ts coming : List Tree) (t : Tree) (o : IsOpen form before out at (ts ++ coming) t)
    (new added : List ℕ) (are : AreEntries (number_reader form) (trees_of ts) new added) where
  new_fits : length new ≤ length o.room
  new_fits = let room = o.room_is in omega (arith, length-words, count-trees_of, room, length-append ts coming)

  -- there is room for the words
  pub room_there : (old : List ℕ) → old ≡ out ++ added → at.word + length new ≤ length old
  room_there old h = grind (arith, new_fits, length-append)

  pub filled : (old after : List ℕ) (next : OpenContainer) → old ≡ out ++ added → next.start ≡ at.start → next.word ≡ at.word + length new
      → after ≡ take at.word old ++ (new ++ drop (at.word + length new) old)
      → IsOpen form before after next coming t
  filled old after next is start word set =
      record {
        kind = o.kind;
        total = o.total;
        few = o.few;
        made = o.made ++ ts;
        words = o.words ++ new;
        contents = o.contents ++ added;
        room = drop (length new) o.room;
        start_is = start ∙ o.start_is;
        word_is = omega (arith, word, o.word_is, length-append o.words new);
        joined = splice before (header (header_number o.kind) o.total) o.words o.room o.contents added new old after at.word refl o.word_is new_fits
            (is ∙ ap (λ (l : List ℕ). l ++ added) o.joined) set;
        room_is = omega (arith, length-drop (length new) o.room, length-words, count-trees_of, o.room_is, length-append ts coming);
        held = entries_append (number_reader form) o.made ts o.words o.contents new added o.held are;
        makes = subst (λ (us : List Tree). Make o.kind o.total us t) (sym (append_assoc o.made ts coming)) o.makes;
      }

-- ---- a container is done

entries_as_keys : (number_at : NumberReader) (ks : List (List ℕ)) (vs : List Tree) (words contents : List ℕ) → AreSortedKeys ks
    → AreEntries number_at (trees_of (map text ks ++ vs)) words contents
    → AreKeys ks × (v : List ℕ) × (d : List ℕ) × (words ≡ key_words ks ++ v) × (contents ≡ key_bytes ks ++ d) × AreEntries number_at (trees_of vs) v d
entries_as_keys number_at [] vs words contents rising h = (tt, words, contents, refl, refl, h)
entries_as_keys number_at (k ∷ ks) vs words contents rising h =
    grind (arith, entries_as_keys number_at ks vs h.other_words h.other_contents rising.1 h.others, append_assoc)

entries_as_values : (number_at : NumberReader) (ps : List (List ℕ × Tree)) (words contents : List ℕ) → AreEntries number_at (trees_of (values_of ps)) words contents
    → AreValues number_at (pairs_of ps) words contents
entries_as_values number_at [] words contents h = h
entries_as_values number_at (p ∷ ps) words contents h = search (arith, entries_as_values number_at ps h.other_words h.other_contents h.others)

built : (form : Form) (kind : HeaderKind) (n : ℕ) (ts : List Tree) (t : Tree) (words contents : List ℕ) → Make kind n ts t → n < 2 ^ 29
    → AreEntries (number_reader form) (trees_of ts) words contents
    → IsContent (number_reader form) t container_entry (header (header_number kind) n ++ (words ++ contents))
built form kind n ts t words contents h e k = grind (arith, count-trees_of, entries_as_keys, values_of, keys-pairs_of, length-keys_of, entries_as_values)

-- once nothing is coming, the container follows what was there before
pub record IsDone (form : Form) (before out : List ℕ) (at : OpenContainer) (t : Tree) : Type 0 where
  pub bytes : List ℕ
  pub joined : out ≡ before ++ bytes
  pub start_is : at.start ≡ length before
  pub content : IsContent (number_reader form) t container_entry bytes

pub closed : (form : Form) (before out : List ℕ) (at : OpenContainer) (t : Tree) → IsOpen form before out at [] t → IsDone form before out at t
closed form before out at t h = grind (arith, common_steps, append-nil, built)

pub done_len : (form : Form) (before out : List ℕ) (at : OpenContainer) (t : Tree) (d : IsDone form before out at t) → length out ≡ at.start + length d.bytes
done_len form before out at t d = let start = d.start_is in omega (arith, start, ap length d.joined, length-append before d.bytes)

-- the outermost container is the document
pub whole_done : (form : Form) (out : List ℕ) (at : OpenContainer) (before : List ℕ) (t whole : Tree) → IsOpen form before out at [] t
    → AreAround form before [] t whole → Decodes form out whole
whole_done form out at before t whole o a = grind (arith, common_steps, closed, closed form before out at t o)

-- ---- a container of runs

pub runs_hold : (form : Form) (runs : List Entries) (ts : List Tree) → RunsHold form runs ts
    → AreEntries (number_reader form) (trees_of ts) (words_of_runs runs) (contents_of_runs runs)
runs_hold form [] ts h = rw h (refl, refl)
runs_hold form (run ∷ runs) ts (xs, ys, first, others, joined) = grind (arith, runs_hold form runs ys others, entries_append)

pub runs_done : (form : Form) (kind : HeaderKind) (n : ℕ) (front back : List Entries) (xs ys : List Tree) (t : Tree) → RunsHold form front xs → RunsHold form back ys
    → Make kind n (xs ++ ys) t → n < 2 ^ 29
    → (one two three four whole : List ℕ) → one ≡ header (header_number kind) n → two ≡ one ++ words_of_runs front → three ≡ two ++ words_of_runs back
    → four ≡ three ++ contents_of_runs front → whole ≡ four ++ contents_of_runs back
    → Decodes form whole t
runs_done form kind n front back xs ys t h e k f one two three four whole g i q m o = grind (arith, append_assoc, built, entries_append, runs_hold)

-- one entry more, whose content is there already or is added
module _ (form : Form) (before out : List ℕ) (at : OpenContainer) (u : Tree) (coming : List Tree) (t : Tree) (o : IsOpen form before out at (u ∷ coming) t)
    (kind : ℕ) (content word : List ℕ) (part : IsContent (number_reader form) u kind content) (short : length content < 2 ^ 28)
    (word_is : word ≡ entry_word kind (length content)) where
  pub one : AreEntries (number_reader form) (trees_of (u ∷ [])) word content
  one = rw word_is (one_entry (number_reader form) u kind content part short)

  pub room_for_one : (old : List ℕ) → old ≡ out ++ content → at.word + length word ≤ length old
  room_for_one old is = room_there form before out at (u ∷ []) coming t o word content one old is

  pub one_filled : (old after : List ℕ) (next : OpenContainer) → old ≡ out ++ content → next.start ≡ at.start → next.word ≡ at.word + length word
      → after ≡ take at.word old ++ (word ++ drop (at.word + length word) old)
      → IsOpen form before after next coming t
  one_filled old after next is start at_word set = filled form before out at (u ∷ []) coming t o word content one old after next is start at_word set
