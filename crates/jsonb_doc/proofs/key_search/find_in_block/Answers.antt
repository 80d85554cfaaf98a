use Rattle.std.proofs.lemmas.List.{get_or-take, length-take-le}
use Rattle.std.specs.Prelude.{min}
use Rattle.jsonb_doc.proofs.Lemmas.{◌≡◌, ◌≢◌, ◌≤◌, ◌+◌, ◌*◌, ◌<◌, List, ℕ, [], length, take, drop, slice_index_or, sym, ap, ◌∙◌, arith, inl, inr, take_rest, first_chunks, told, KeysLeft-end, chunk_at, key_cut, key_within, key_differs, key_passed, key_found, is_other, block_searched, length-drop}
use Rattle.jsonb_doc.proofs.key_search.find_in_block.Goals.{then-len-name+in-Some+else-bytes_equal, else-len-name}
use Rattle.jsonb_doc.proofs.key_search.find_in_block.Goals as goal

-- the length that was read is that of the word at this position
read : (all : List (List ℕ)) (n k at len : ℕ) (words : List ℕ) → all ≡ first_chunks 4 k words → at < n → at < k
    → len ≡ told (slice_index_or (take n all) at []) → len ≡ told (take 4 (drop (4 * at) words))
read all n k at len words are within h e =
    e ∙ ap told (get_or-take n all at [] within ∙ ap (λ (l : List (List ℕ)). slice_index_or l at []) are ∙ chunk_at k at words h)

-- the number of words that are searched
cut : (all : List (List ℕ)) (n : ℕ) → n ≡ min (length all) 32 → length (take n all) ≡ n
cut all n e = length-take-le n all (omega (arith, e))

pub returns-in_default-clause-found : goal.returns-in_default-clause-found
returns-in_default-clause-found c = λ ks rest h others.
    let inv = c.loop-at.invariant.left ks rest h in
    let size = cut c.as_chunks.result.0.now _ c.min.ensures in
    let some : 4 * c.loop-at.at + 4 ≤ length c.args.words.now = omega (arith, size, c.as_chunks.ensures.front_len, c.loop-at-test.true) in
    let within = key_within _ ks rest _ _ _ _ _ inv.0 some inv.1 (read _ c.min.result _ _ _ _ c.as_chunks.ensures.front (omega (arith, size, c.loop-at-test.true)) (omega (arith, some)) c.entry_len-len.ensures) in
    elim c.in_default.ensures.lookup.0 [ inl less ↦ omega (arith, less) | inr beyond ↦ omega (arith, beyond, within) ]

pub returns-then-bytes_equal-clause-found : goal.returns-then-bytes_equal-clause-found
returns-then-bytes_equal-clause-found c = λ ks rest h others.
    let inv = c.loop-at.invariant.left ks rest h in
    let size = cut c.as_chunks.result.0.now _ c.min.ensures in
    let some : 4 * c.loop-at.at + 4 ≤ length c.args.words.now = omega (arith, size, c.as_chunks.ensures.front_len, c.loop-at-test.true) in
    let len = read _ c.min.result _ _ _ _ c.as_chunks.ensures.front (omega (arith, size, c.loop-at-test.true)) (omega (arith, some)) c.entry_len-len.ensures in
    let key = key_cut c.args.bytes.now _ c.loop-at.end c.entry_len-len.result c.in-Some.ensures.lookup.0.2 in
    rw (take_rest c.args.words.now (4 * (c.loop-at.at + 1)), take_rest c.args.bytes.now (c.loop-at.end + c.entry_len-len.result))
    (key_found _ ks rest _ _ _ _ _ inv.0 some inv.1 len (sym key ∙ c.bytes_equal.ensures.0 c.if-bytes_equal.true))

pub loop-at-preserved : goal.loop-at-preserved
loop-at-preserved c = record {
  bound = omega (arith, c.loop-at.invariant.bound, c.entry_len-len.ensures);
  left = λ ks rest h.
      let inv = c.loop-at.invariant.left ks rest h in
      let size = cut c.as_chunks.result.0.now _ c.min.ensures in
      let some : 4 * c.loop-at.at + 4 ≤ length c.args.words.now = omega (arith, size, c.as_chunks.ensures.front_len, c.loop-at-test.true) in
      let len = read _ c.min.result _ _ _ _ c.as_chunks.ensures.front (omega (arith, size, c.loop-at-test.true)) (omega (arith, some)) c.entry_len-len.ensures in
      let other : take c.entry_len-len.result (drop c.loop-at.end c.args.bytes.now) ≢ c.args.name.now = elim c.if-len-name.branch [
        | then-len-name+in-Some+else-bytes_equal w ↦ λ e.
            is_other w.bytes_equal.ensures w.if-bytes_equal.false
            (key_cut c.args.bytes.now _ c.loop-at.end c.entry_len-len.result w.in-Some.ensures.lookup.0.2 ∙ e)
        | else-len-name w ↦ key_differs _ ks rest _ _ _ _ _ inv.0 some inv.1 len w.if-len-name.false
      ] in (
        key_passed _ ks rest _ _ _ _ _ inv.0 some inv.1 len other,
        key_within _ ks rest _ _ _ _ _ inv.0 some inv.1 len,
      );
}

pub returns-clause-found : goal.returns-clause-found
returns-clause-found c = λ ks rest h others.
    let size = cut c.as_chunks.result.0.now _ c.min.ensures in
    block_searched _ 32 _ ks _ _ rest _ h (c.loop-at.invariant.left ks rest h).0 others
    (λ more. omega (arith, size, c.min.ensures, c.as_chunks.ensures.front_len, c.loop-at-test.false, more))
