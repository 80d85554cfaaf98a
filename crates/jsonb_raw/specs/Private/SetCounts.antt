-- How often the equality keys of elements are counted while an array is gone over.
use Rattle.std.specs.Prelude.{◌≡◌, ℕ, ◌+◌, ◌-◌, ◌<◌, ◌^◌, ◌==◌, length, Bool, not, cond, if◌then◌else◌, List, [], ◌∷◌, Vec, unwrap_or, count_by}
use Rattle.std.specs.Ordering.{nat_cmp}
use Rattle.std.specs.List.{AllByRecursion}
use Rattle.std.specs.declared.cmp.Ordering.{Ordering}
use Rattle.std.specs.declared.alloc.Global.{Global}
use Rattle.std.specs.Cmp.Lexicographic.{slice_cmp}
use Rattle.std.specs.Str.{bytes_eq}
use Rattle.std.specs.BTreeMap as map
use Rattle.jsonb_doc.specs.Tree.{Tree}
use Rattle.jsonb_doc.specs.Payload.{Form}
use Rattle.jsonb_doc.specs.Limits.{Fits}
use Rattle.jsonb_raw.specs.EqualityKey.{equality_key}
use Rattle.jsonb_raw.specs.Sets.{count_of, is_shared}
use Rattle.jsonb_raw.specs.Private.Entries.{HoldTrees}
use Rattle.jsonb_raw.specs.declared.functions.array.counts.KeyCounts.{KeyCounts}
use Rattle.jsonb_raw.specs.declared.functions.array.seen.ElementsPassed.{ElementsPassed}
use Rattle.jsonb_raw.specs.declared.functions.array.seen.Seen.{Seen}
use Rattle.jsonb_raw.specs.declared.functions.array.seen.Seen.TheVariants.{Keys, Elements}
use Rattle.jsonb_raw.specs.declared.functions.array.sets.SetOperation.{SetOperation}
use Rattle.jsonb_raw.specs.declared.functions.array.sets.SetOperation.TheVariants.{First, Shared, Unshared}

-- an occurrence of an element in a list: the elements before it, the last of them first, and itself
abbrev pub Occurrence : Type 0
Occurrence = List Tree × Tree

-- whether no element before it equals it
abbrev pub is_first : Occurrence → Bool
is_first o = count_of o.1 o.0 == 0

-- the order of keys, as a map compares them
abbrev pub key_cmp : Vec ℕ Global → Vec ℕ Global → Ordering
key_cmp v w = slice_cmp nat_cmp v.items w.items

-- how often the key is counted
abbrev pub counted : KeyCounts → Vec ℕ Global → ℕ
counted m key = unwrap_or (map.get key_cmp m.counts key) 0

-- 1 at the key itself, 0 at another
abbrev pub one_at : List ℕ → Vec ℕ Global → ℕ
one_at bytes key = cond (bytes_eq bytes key.items) 1 0

-- how many of the trees have this equality key
abbrev pub with_key : Vec ℕ Global → List Tree → ℕ
with_key key ts = count_by (λ t. bytes_eq (equality_key t) key.items) ts

-- each key is counted as often as the trees have it
abbrev pub CountsKeys : KeyCounts → List Tree → Type 0
CountsKeys m ts = (key : Vec ℕ Global) → counted m key ≡ with_key key ts

-- which occurrences are kept
abbrev pub keeps : SetOperation → List Tree → Occurrence → Bool
keeps First other o = is_first o
keeps Shared other o = is_shared other o
keeps Unshared other o = not (is_shared other o)

-- the element itself if its occurrence is kept
abbrev pub kept_one : SetOperation → List Tree → Occurrence → List Tree
kept_one kind other o = if keeps kind other o then o.1 ∷ [] else []

-- the count of a key after the elements `before`: as often as they have it, or as they leave it of the other list
abbrev pub count_behind : SetOperation → List Tree → List Tree → Vec ℕ Global → ℕ
count_behind First other before key = with_key key before
count_behind Shared other before key = with_key key other - with_key key before
count_behind Unshared other before key = with_key key other - with_key key before

-- The counts are those after the elements `before`, and all elements are within the limits, so that keys distinguish
-- them.
pub record CountsAfter (kind : SetOperation) (m : KeyCounts) (other before : List Tree) : Type 0 where
  pub counts : (key : Vec ℕ Global) → counted m key ≡ count_behind kind other before key
  pub fit_other : AllByRecursion Fits other
  pub fit_before : AllByRecursion Fits before

-- ---- elements passed

-- The elements `before`, the last of them first, in their order, and then the others.
abbrev pub in_order : List Tree → List Tree → List Tree
in_order [] rest = rest
in_order (t ∷ before) rest = in_order before (t ∷ rest)

-- Holds if the counts are those after the elements `before`, while `rest` remain.
abbrev pub AreCounted : SetOperation → KeyCounts → List Tree → List Tree → List Tree → Type 0
AreCounted kind counts other before rest =
    CountsAfter kind counts other before × AllByRecursion Fits rest × (length before + length rest < 2 ^ 63)

-- Holds if the entries are those of all elements and of the other list, and the elements `before` are passed, while
-- `rest` remain.
pub record ArePassed (form : Form) (elements : ElementsPassed) (other before rest : List Tree) : Type 0 where
  pub other_form : Form
  pub all_hold : HoldTrees form elements.all (in_order before rest)
  pub others_hold : HoldTrees other_form elements.others other
  pub passed_is : elements.passed ≡ length before
  pub few : length before + length rest < 2 ^ 63

-- Holds if one of the two does.
abbrev pub HaveSeen : Form → SetOperation → Seen → List Tree → List Tree → List Tree → Type 0
HaveSeen form kind (Keys keys) other before rest = AreCounted kind keys.counts other before rest
HaveSeen form kind (Elements elements) other before rest = ArePassed form elements other before rest
