-- Types of entries and of headers, and what tests of them state about their numbers.
use Rattle.jsonb_doc.proofs.Common.{◌≡◌, ◌≢◌, ◌<◌, Bool, true, false, refl, sym, ◌∙◌, ap, ap₂, arith, nat_eq, ◌==◌, not, nat_tests, tag_of, kind_number, EntryKind, the_type}
use Rattle.jsonb_doc.specs.contracts.layout.EntryKindPartialEq.TheImpl.{eq-value as kind_equal}

pub kind_known : (kind : EntryKind) → kind_number kind < 8
kind_known kind = grind arith

-- ---- tests

-- kinds are numbered in their order
number_is : (kind : EntryKind) → tag_of the_type kind ≡ kind_number kind
number_is kind = grind arith

-- a test decides whether their numbers are one
pub kinds_told : (a b : EntryKind) → kind_equal.it a b ≡ (kind_number a == kind_number b)
kinds_told a b = ap₂ nat_eq (number_is a) (number_is b)

-- what an arm of `if a == b` knows
pub same_kind : (r : Bool) (a b : EntryKind) → r ≡ kind_equal.it a b → r ≡ true → kind_number a ≡ kind_number b
same_kind r a b is holds = let same : ((kind_number a) == (kind_number b)) ≡ true = sym (is ∙ kinds_told a b) ∙ holds in grind (arith, nat_tests)

pub other_kind : (r : Bool) (a b : EntryKind) → r ≡ kind_equal.it a b → r ≡ false → kind_number a ≢ kind_number b
other_kind r a b is fails = (λ e. let other : ((kind_number a) == (kind_number b)) ≡ false = sym (is ∙ kinds_told a b) ∙ fails in grind (arith, nat_tests))

turned : (r s : Bool) → r ≡ not s → s ≡ not r
turned r s h = grind arith

-- what an arm of `if a != b` knows
pub differing_kind : (r : Bool) (a b : EntryKind) → r ≡ not (kind_equal.it a b) → r ≡ true → kind_number a ≢ kind_number b
differing_kind r a b is holds = other_kind _ a b refl (turned r (kind_equal.it a b) is ∙ ap not holds)

pub equal_kind : (r : Bool) (a b : EntryKind) → r ≡ not (kind_equal.it a b) → r ≡ false → kind_number a ≡ kind_number b
equal_kind r a b is fails = same_kind _ a b refl (turned r (kind_equal.it a b) is ∙ ap not fails)
