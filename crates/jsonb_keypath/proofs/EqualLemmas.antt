-- Equality of key paths is equality of their steps and strings.
use Rattle.jsonb_keypath.proofs.Common.{◌≡◌, ℕ, List, [], ◌∷◌, map, Bool, true, false, Some, None, Option, refl, ap, ◌&&◌, nat_eq, ℤ, string_bytes, Decides, cow_str_bytes, pointwise, Decides-int_eq, Decides-eqb, slice_eq-Decides, same_Some, KeyPath, Index, QuotedName, Name, KeyPaths, OwnedKeyPath, OwnedKeyPaths, Key, index, quoted_name, unquoted_name, key_view, key_paths_view, owned_key_view, owned_key_paths_view}
use Rattle.jsonb_keypath.specs.declared.owned.OwnedKeyPath.TheVariants as owned
use Rattle.jsonb_keypath.specs.contracts.key_path.KeyPathPartialEq.TheImpl.{eq-value as key_equal}
use Rattle.jsonb_keypath.specs.contracts.key_path.KeyPathsPartialEq.TheImpl.{eq-value as key_paths_equal}
use Rattle.jsonb_keypath.specs.contracts.owned.OwnedKeyPathPartialEq.TheImpl.{eq-value as owned_key_equal}
use Rattle.jsonb_keypath.specs.contracts.owned.OwnedKeyPathsPartialEq.TheImpl.{eq-value as owned_key_paths_equal}

-- ---- strings, indices and their steps

texts : (s t : List ℕ) → Decides (pointwise nat_eq s t) (s ≡ t)
texts s t = slice_eq-Decides Decides-eqb s t (pointwise nat_eq s t) refl

-- what a step holds
index_of : Key → Option ℤ
index_of (index i) = Some i
index_of _ = None

text_of : Key → List ℕ
text_of (index i) = []
text_of (quoted_name text) = text
text_of (unquoted_name text) = text

same_index : (i j : ℤ) → index i ≡ index j → i ≡ j
unfolding index_of
same_index i j e = same_Some i j (ap index_of e)

same_quoted : (s t : List ℕ) → quoted_name s ≡ quoted_name t → s ≡ t
unfolding text_of
same_quoted s t e = ap text_of e

same_plain : (s t : List ℕ) → unquoted_name s ≡ unquoted_name t → s ≡ t
unfolding text_of
same_plain s t e = ap text_of e

pub key-equal : (a b : KeyPath) → Decides (key_equal.it a b) (key_view a ≡ key_view b)
key-equal (Index i) (Index j) = let d = Decides-int_eq i j in (λ h. ap (λ (k : ℤ). index k) (d.0 h), λ e. d.1 (same_index i j e))
key-equal (QuotedName s) (QuotedName t) =
    let d = texts (cow_str_bytes s) (cow_str_bytes t) in
    (λ h. ap (λ (text : List ℕ). quoted_name text) (d.0 h), λ e. d.1 (same_quoted (cow_str_bytes s) (cow_str_bytes t) e))
key-equal (Name s) (Name t) =
    let d = texts (cow_str_bytes s) (cow_str_bytes t) in
    (λ h. ap (λ (text : List ℕ). unquoted_name text) (d.0 h), λ e. d.1 (same_plain (cow_str_bytes s) (cow_str_bytes t) e))
key-equal (Index i) (QuotedName t) = (λ h. cc, λ e. cc)
key-equal (Index i) (Name t) = (λ h. cc, λ e. cc)
key-equal (QuotedName s) (Index j) = (λ h. cc, λ e. cc)
key-equal (QuotedName s) (Name t) = (λ h. cc, λ e. cc)
key-equal (Name s) (Index j) = (λ h. cc, λ e. cc)
key-equal (Name s) (QuotedName t) = (λ h. cc, λ e. cc)

pub owned_key-equal : (a b : OwnedKeyPath) → Decides (owned_key_equal.it a b) (owned_key_view a ≡ owned_key_view b)
owned_key-equal (owned.Index i) (owned.Index j) = let d = Decides-int_eq i j in (λ h. ap (λ (k : ℤ). index k) (d.0 h), λ e. d.1 (same_index i j e))
owned_key-equal (owned.QuotedName s) (owned.QuotedName t) =
    let d = texts (string_bytes s) (string_bytes t) in
    (λ h. ap (λ (text : List ℕ). quoted_name text) (d.0 h), λ e. d.1 (same_quoted (string_bytes s) (string_bytes t) e))
owned_key-equal (owned.Name s) (owned.Name t) =
    let d = texts (string_bytes s) (string_bytes t) in
    (λ h. ap (λ (text : List ℕ). unquoted_name text) (d.0 h), λ e. d.1 (same_plain (string_bytes s) (string_bytes t) e))
owned_key-equal (owned.Index i) (owned.QuotedName t) = (λ h. cc, λ e. cc)
owned_key-equal (owned.Index i) (owned.Name t) = (λ h. cc, λ e. cc)
owned_key-equal (owned.QuotedName s) (owned.Index j) = (λ h. cc, λ e. cc)
owned_key-equal (owned.QuotedName s) (owned.Name t) = (λ h. cc, λ e. cc)
owned_key-equal (owned.Name s) (owned.Index j) = (λ h. cc, λ e. cc)
owned_key-equal (owned.Name s) (owned.QuotedName t) = (λ h. cc, λ e. cc)

-- ---- lists of steps

both : (s t : Bool) → (s && t) ≡ true → (s ≡ true) × (t ≡ true)
both true true h = (refl, refl)
both true false h = cc
both false t h = cc

head_or : Key → List Key → Key
head_or k [] = k
head_or k (l ∷ others) = l

tail_of : List Key → List Key
tail_of [] = []
tail_of (k ∷ others) = others

same_head : (k l : Key) (ks ls : List Key) → k ∷ ks ≡ l ∷ ls → k ≡ l
unfolding head_or
same_head k l ks ls e = ap (head_or k) e

same_tail : (k l : Key) (ks ls : List Key) → k ∷ ks ≡ l ∷ ls → ks ≡ ls
unfolding tail_of
same_tail k l ks ls e = ap tail_of e

-- lists are equal if their members are, one by one
members : {A : Type 0} (view : A → Key) (E : A → A → Bool) → ((a b : A) → Decides (E a b) (view a ≡ view b)) → (xs ys : List A)
    → Decides (pointwise E xs ys) (map view xs ≡ map view ys)
members view E d [] [] = (λ h. refl, λ e. refl)
members view E d [] (y ∷ ys) = (λ h. cc, λ e. cc)
members view E d (x ∷ xs) [] = (λ h. cc, λ e. cc)
members view E d (x ∷ xs) (y ∷ ys) = (
  λ h. (let parts = both (E x y) (pointwise E xs ys) h in rw ((d x y).0 parts.0, (members view E d xs ys).0 parts.1) refl),
  λ e. rw (
    (d x y).1 (same_head (view x) (view y) (map view xs) (map view ys) e),
    (members view E d xs ys).1
        (same_tail (view x) (view y) (map view xs) (map view ys) e),
  ) refl,
)

pub key_paths-equal : (a b : KeyPaths) → Decides (key_paths_equal.it a b) (key_paths_view a ≡ key_paths_view b)
key_paths-equal a b = members key_view key_equal.it key-equal a.paths.items b.paths.items

pub owned_key_paths-equal : (a b : OwnedKeyPaths) → Decides (owned_key_paths_equal.it a b) (owned_key_paths_view a ≡ owned_key_paths_view b)
owned_key_paths-equal a b = members owned_key_view owned_key_equal.it owned_key-equal a.paths.items b.paths.items
