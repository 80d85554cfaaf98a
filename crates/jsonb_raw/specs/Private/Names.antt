-- The names of a set that are left to compare with sorted keys.
use Rattle.std.specs.Prelude.{◌≡◌, ℕ, Bool, true, false, List, [], ◌∷◌, ◌++◌, length, map, Option, Some, None, ⊤}
use Rattle.std.specs.Bool.{beq}
use Rattle.std.specs.Map.{keys_of}
use Rattle.std.specs.Borrow.{Bor}
use Rattle.std.specs.BTreeMap.{is_at}
use Rattle.std.specs.List.{list_any}
use Rattle.std.specs.List.Sorted.{IsStrictlySortedBy}
use Rattle.std.specs.Ordering.{nat_cmp}
use Rattle.std.specs.declared.cmp.Ordering.TheVariants.{Less}
use Rattle.std.specs.Cmp.Lexicographic.{slice_cmp}
use Rattle.jsonb_doc.specs.Format.{AreKeys}
use Rattle.jsonb_doc.specs.Payload.{Form}
use Rattle.jsonb_doc.specs.Tree.{Tree, text}
use Rattle.jsonb_doc.specs.declared.cursor.Entries.{Entries}
use Rattle.jsonb_raw.specs.Objects.{TextSet, is_in}
use Rattle.jsonb_raw.specs.Private.Entries.{HoldTrees}
use Rattle.jsonb_raw.specs.Private.PairSteps.{parted}
use Rattle.jsonb_raw.specs.declared.functions.object.names.KeyRun.{KeyRun}
use Rattle.jsonb_raw.specs.declared.functions.object.names.SortedNames.{SortedNames}

abbrev pub first_and_others : Option (Bor (List ℕ)) → List (Bor (List ℕ)) → List (Bor (List ℕ))
first_and_others None others = []
first_and_others (Some name) others = name ∷ others

-- the names that are left
abbrev pub names_left : SortedNames → List (Bor (List ℕ))
names_left names = first_and_others names.next names.left

-- whether the key is one of the names; `is_in` states the same of a set
abbrev pub is_among : List ℕ → List (Bor (List ℕ)) → Bool
is_among key names = list_any (is_at (λ name. slice_cmp nat_cmp key name.now)) names

-- each name is below those after it
abbrev pub AreSorted : List (Bor (List ℕ)) → Type 0
AreSorted names = IsStrictlySortedBy (λ name other. slice_cmp nat_cmp name.now other.now) names

-- the later key is not below the key
abbrev pub IsNotBelow : List ℕ → List ℕ → Type 0
IsNotBelow key later = slice_cmp nat_cmp later key ≡ Less → ⊥

-- the names, which are sorted, decide for this key and for those above it
pub record DecideFrom (set : TextSet) (key : List ℕ) (names : List (Bor (List ℕ))) : Type 0 where
  pub sorted : AreSorted names
  pub agree : (later : List ℕ) → IsNotBelow key later → is_in set later ≡ is_among later names

-- the names that are left decide for the keys that are left
abbrev pub DecideForKeys : TextSet → List (Bor (List ℕ)) → List (List ℕ) → Type 0
DecideForKeys set names [] = ⊤
DecideForKeys set names (key ∷ ks) = DecideFrom set key names

-- all of the members, or none
abbrev pub all_or_none : Bool → List (List ℕ × Tree) → List (List ℕ × Tree)
all_or_none true ps = ps
all_or_none false ps = []

-- The first members, `count` of them, are all in the set, or all not. The names that are left decide for the others,
-- whose keys are the entries that are left.
pub record PartsFirst (form : Form) (set : TextSet) (names : List (Bor (List ℕ))) (is_part : Bool) (count : ℕ)
    (left : Entries) (ps : List (List ℕ × Tree)) : Type 0 where
  pub run : List (List ℕ × Tree)
  pub others : List (List ℕ × Tree)
  pub joined : ps ≡ run ++ others
  pub size : count ≡ length run
  pub parts : (wanted : Bool) → parted wanted set ps ≡ all_or_none (beq is_part wanted) run ++ parted wanted set others
  pub hold : HoldTrees form left (map text (keys_of others))
  pub are_keys : AreKeys (keys_of others)
  pub decide : DecideForKeys set names (keys_of others)

abbrev pub TakesRun : Form → TextSet → List (Bor (List ℕ)) → List (List ℕ × Tree) → Option KeyRun → Type 0
TakesRun form set names ps None = ps ≡ []
TakesRun form set names ps (Some run) = PartsFirst form set names run.is_in run.count run.others ps
