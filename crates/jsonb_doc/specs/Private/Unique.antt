-- Members sorted by key, of those with the same key the last one.
use Rattle.std.specs.Prelude.{ℕ, Bool, true, List, [], ◌∷◌, if◌then◌else◌}
use Rattle.std.specs.Ordering.{nat_cmp, is_lt}
use Rattle.std.specs.Cmp.Lexicographic.{slice_cmp}
use Rattle.jsonb_doc.specs.declared.event_list.collecting.Part.{Part}
use Rattle.jsonb_doc.specs.declared.event_list.collecting.Member.{Member}

-- Whether the first member has the lower key.
abbrev pub has_lower_key : Member → Member → Bool
has_lower_key m n = is_lt (slice_cmp nat_cmp m.key.now n.key.now)

-- Whether the key is below that of the first member, if there is one.
abbrev pub is_below_first : List ℕ → List Member → Bool
is_below_first key [] = true
is_below_first key (m ∷ ms) = is_lt (slice_cmp nat_cmp key m.key.now)

-- The members without those whose key is not below the next one.
abbrev pub unique : List Member → List Member
unique [] = []
unique (m ∷ ms) = if is_below_first m.key.now ms then m ∷ unique ms else unique ms

-- A member as a pair.
abbrev pub as_pair : Member → List ℕ × Part
as_pair m = (m.key.now, m.part)
