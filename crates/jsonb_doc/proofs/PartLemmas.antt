-- The nodes of a value, as they are dropped one by one.
use Rattle.jsonb_doc.proofs.Common.{◌≡◌, ℕ, ◌+◌, ◌<◌, ◌≤◌, List, [], ◌∷◌, ◌++◌, Option, None, Some, length, drop, String, Vec, BTreeMap, Global, Ordering, Less, Equal, Greater, string_cmp, ap, arith, cond, insert_entry, is_at, keys_of, lookup, is_eq, match_ordering, mul-le, Tree, number_view, tree_parts, parts, values_parts, entries_parts, to_release, remaining, Value, Remaining}
use Rattle.jsonb_doc.specs.declared.value.Value.{Array, Object}
use Rattle.jsonb_doc.proofs.ValueTrees.{Entry, tree_seen-Array, tree_seen-Object}

-- ---- the measure

pub fewer_parts : (n w n' w' : ℕ) → n' + w' < n + w → to_release n' w' < to_release n w
unfolding to_release
fewer_parts n w n' w' less =
    let squares = mul-le (n' + w' + 1) (n' + w' + 1) (n + w) (n + w) (omega arith) (omega arith) in
    grind (arith, squares)

pub fewer_in_front : (n w n' w' : ℕ) → n' + w' ≤ n + w → n' < n → to_release n' w' < to_release n w
unfolding to_release
fewer_in_front n w n' w' most less = let squares = mul-le (n' + w') (n' + w') (n + w) (n + w) most most in omega arith

pub as_many_parts : (n m w x : ℕ) → n ≤ m → x < to_release n w → x < to_release m w
unfolding to_release
as_many_parts n m w x most less = let squares = mul-le (n + w) (n + w) (m + w) (m + w) (omega arith) (omega arith) in omega arith

-- nothing, or one more than there is to release
abbrev pub still : Option Remaining → ℕ
still None = 0
still (Some r) = 1 + remaining r

-- ---- the parts

pub some_tree_parts : (t : Tree) → 0 < tree_parts t
some_tree_parts t = grind arith

pub parts-Array : (v : Vec Value Global) → parts (Array v) ≡ 1 + values_parts v.items
parts-Array v = ap tree_parts (tree_seen-Array number_view v)

pub parts-Object : (m : BTreeMap (String Global) Value) → parts (Object m) ≡ 1 + entries_parts m.entries
parts-Object m = ap tree_parts (tree_seen-Object number_view m)

pub values_parts-last : (vs : List Value) (v : Value) → values_parts (vs ++ v ∷ []) ≡ values_parts vs + parts v
values_parts-last [] v = omega arith
values_parts-last (w ∷ vs) v = let rest = values_parts-last vs v in omega arith

pub entries_parts-last : (es : List Entry) (e : Entry) → entries_parts (es ++ e ∷ []) ≡ entries_parts es + parts e.1
entries_parts-last [] e = omega arith
entries_parts-last (f ∷ es) e = let rest = entries_parts-last es e in omega arith

-- the value w in place of v
abbrev Exchanges : List Entry → List Entry → Value → Value → Type 0
Exchanges es fs v w = (entries_parts fs + parts v ≡ entries_parts es + parts w) × (parts v ≤ entries_parts es)

pub exchanged : (es : List Entry) (k : String Global) (v w : Value) → keys_of (insert_entry string_cmp es k w) ≡ keys_of es
    → lookup (is_at (string_cmp k)) es ≡ Some v → Exchanges es (insert_entry string_cmp es k w) v w
exchanged [] k v w kept found = absurd (cc)
exchanged (e ∷ es) k v w kept found = by (exchanged es k v w) (string_cmp k e.0) kept found
  where
    by : (keys_of (insert_entry string_cmp es k w) ≡ keys_of es → lookup (is_at (string_cmp k)) es ≡ Some v → Exchanges es (insert_entry string_cmp es k w) v w)
        → (o : Ordering) → let fs = match_ordering o ((k, w) ∷ e ∷ es) ((e.0, w) ∷ es) (e ∷ insert_entry string_cmp es k w) in
        keys_of fs ≡ e.0 ∷ keys_of es → cond (is_eq o) (Some e.1) (lookup (is_at (string_cmp k)) es) ≡ Some v → Exchanges (e ∷ es) fs v w
    by behind Less kept found = absurd (let longer = ap length kept in omega arith)
    by behind Equal kept found = let same : e.1 ≡ v = cc in rw (← same) (omega arith, omega arith)
    by behind Greater kept found = let rest = behind (ap (drop 1) kept) found in (omega (arith, rest.0), omega (arith, rest.1))
