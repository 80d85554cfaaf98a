-- Spans of strings, and of the children that a cursor has left.
use Rattle.std.proofs.Common.{◌≡◌, ◌<◌, ℕ, true, false, List, Option, Some, None, Bor, IsSomeAnd, refl, arith}
use Rattle.std.specs.Prelude.{option_map}
use Rattle.jsonb_doc.specs.Answer.{SameOption}
use Rattle.jsonb_doc.specs.ChildPositions.{TakesChild}
use Rattle.jsonb_doc.specs.Format.{IsContent}
use Rattle.jsonb_doc.specs.Item.{StandsFor}
use Rattle.jsonb_doc.specs.Payload.{Form, number_reader}
use Rattle.jsonb_doc.specs.Representation.Positions.{Locates}
use Rattle.jsonb_doc.specs.Tree.{Tree, null, boolean, number, text, extension, array, object, no_trees, tree, no_pairs, pair}
use Rattle.jsonb_doc.specs.declared.child_positions.Child.{Child}
use Rattle.jsonb_doc.specs.declared.child_positions.ChildPositions.{ChildPositions}
use Rattle.jsonb_doc.specs.declared.item.Item.{Item}
use Rattle.jsonb_doc.specs.declared.item.Item.TheVariants as item
use Rattle.jsonb_doc.specs.declared.spot.Spot.{Spot}
use Rattle.jsonb_raw.specs.Scalars.{text_in}
use Rattle.jsonb_c.specs.Private.Numbers.{tree_kind}
use Rattle.jsonb_c.specs.Spans.{IsSpanOf}
use Rattle.jsonb_c.specs.declared.document.kind.Kind.TheVariants.{String}
use Rattle.jsonb_c.specs.declared.span.Span.{Span}

-- ---- strings

-- only a string has the entry of one
pub stored_string : (form : Form) (t : Tree) (content : List ℕ) → IsContent (number_reader form) t 1 content → String ≡ tree_kind t
stored_string form null content h = let k : 1 ≡ 0 = h.0 in absurd (omega (arith, k))
stored_string form (boolean true) content h = let k : 1 ≡ 4 = h.0 in absurd (omega (arith, k))
stored_string form (boolean false) content h = let k : 1 ≡ 3 = h.0 in absurd (omega (arith, k))
stored_string form (number n) content h = let k : 1 ≡ 2 = h.0 in absurd (omega (arith, k))
stored_string form (text s) content h = refl
stored_string form (extension x) content h = let k : 1 ≡ 6 = h.0 in absurd (omega (arith, k))
stored_string form (array ts) content h = let k : 1 ≡ 5 = h.0 in absurd (omega (arith, k))
stored_string form (object ps) content h = let k : 1 ≡ 5 = h.0 in absurd (omega (arith, k))

pub string_item : (form : Form) (x : Item) (s : Bor (List ℕ)) (t : Tree) → x ≡ item.String s → StandsFor form x t → t ≡ text s.now
string_item form x s t is h = rw is at h

pub no_string : (form : Form) (x : Item) (t : Tree) → ((s : Bor (List ℕ)) → x ≡ item.String s → ⊥) → StandsFor form x t
    → option_map text (text_in t) ≡ None
no_string form (item.String s) t other h = absurd (other s refl)
no_string form (item.Array b) t other h = rw h.1 refl
no_string form (item.Object b) t other h = rw h.1 refl
no_string form _ t other h = rw h refl

-- ---- entries

-- the entry of a tree is of one of seven types
pub known_entry : (form : Form) (t : Tree) (kind : ℕ) (content : List ℕ) → IsContent (number_reader form) t kind content → kind < 7
known_entry form null kind content h = let k : kind ≡ 0 = h.0 in omega (arith, k)
known_entry form (boolean true) kind content h = let k : kind ≡ 4 = h.0 in omega (arith, k)
known_entry form (boolean false) kind content h = let k : kind ≡ 3 = h.0 in omega (arith, k)
known_entry form (number n) kind content h = let k : kind ≡ 2 = h.0 in omega (arith, k)
known_entry form (text s) kind content h = let k : kind ≡ 1 = h.0 in omega (arith, k)
known_entry form (extension x) kind content h = let k : kind ≡ 6 = h.0 in omega (arith, k)
known_entry form (array ts) kind content h = let k : kind ≡ 5 = h.0 in omega (arith, k)
known_entry form (object ps) kind content h = let k : kind ≡ 5 = h.0 in omega (arith, k)

-- ---- children

no_key : {S : Type 0} (R : S → Tree → Type 0) (key : Option S) → SameOption R key None → key ≡ None
no_key R None h = refl
no_key R (Some x) h = absurd h

some_key : {S : Type 0} (R : S → Tree → Type 0) (key : Option S) (t : Tree) → SameOption R key (Some t) → IsSomeAnd key (λ x. R x t)
some_key R None t h = absurd h
some_key R (Some x) t h = h

key_of : {S : Type 0} (R : S → Tree → Type 0) (key : Option S) (t : Tree) → IsSomeAnd key (λ x. R x t) → SameOption R key (Some t)
key_of R None t h = absurd h
key_of R (Some x) t h = h

module _ (form : Form) (document : List ℕ) where
  -- without a child none is taken, wherever the cursor is
  pub none_taken : (t : Tree) (at after : ChildPositions) → TakesChild (Locates document) document t None at
      → TakesChild (IsSpanOf form document) document t None after
  none_taken (array no_trees) at after h = tt
  none_taken (object no_pairs) at after h = tt
  none_taken _ at after h = absurd h

  -- a child that was taken, and what its spans have to be
  pub record Taken (t : Tree) (child : Child Spot) (after : ChildPositions) : Type 0 where
    pub u : Tree
    pub name : Option Tree
    pub key : SameOption (Locates document) child.key name
    pub value : Locates document child.value u
    pub spans : (s : Child Span) → SameOption (IsSpanOf form document) s.key name → IsSpanOf form document s.value u
        → TakesChild (IsSpanOf form document) document t (Some s) after

  pub taken : (t : Tree) (child : Child Spot) (after : ChildPositions) → TakesChild (Locates document) document t (Some child) after → Taken t child after
  taken (array (tree u ts)) child after h = record {
    u = u;
    name = None;
    key = rw h.0 tt;
    value = h.1;
    spans = λ s k v. (no_key (IsSpanOf form document) s.key k, v, h.2);
  }
  taken (object (pair key u ps)) child after h = record {
    u = u;
    name = Some (text key);
    key = key_of (Locates document) child.key (text key) h.0;
    value = h.1;
    spans = λ s k v. (some_key (IsSpanOf form document) s.key (text key) k, v, h.2);
  }
  taken _ child after h = absurd h

-- the span of what was found
pub found_as : {S U : Type 0} (R : S → Tree → Type 0) (Q : U → Tree → Type 0) (found : Option S) (spot : S) (span : U) (wanted : Option Tree)
    → found ≡ Some spot → SameOption R found wanted → ((t : Tree) → R spot t → Q span t) → SameOption Q (Some span) wanted
found_as R Q found spot span (Some t) is h has = has t (rw is at h)
found_as R Q found spot span None is h has = absurd (rw is at h)
