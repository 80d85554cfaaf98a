use Rattle.jsonb_doc.proofs.Lemmas.{◌≢◌, ◌*◌, ◌≤◌, length, sym, ◌∙◌, arith, inl, inr, slice_cmp, IsPart-size, none_behind, bytes_after, no_other, below_others, block_skipped, nat_cmp, Less}
use Rattle.jsonb_doc.proofs.key_search.skip_block.Goals as goal

pub returns-in_default-clause-skips : goal.returns-in_default-clause-skips
returns-in_default-clause-skips c = λ ks rest h. none_behind c.args.count ks c.args.words.now c.args.bytes.now rest h c.args.name.now c.in_default.ensures.cases

pub returns-in_default-get-clause-skips : goal.returns-in_default-get-clause-skips
returns-in_default-get-clause-skips c = λ ks rest h.
    let cases = c.in-Some.ensures.cases in
    rw c.in_default-get.is at (bytes_after c.args.count ks _ _ rest h (omega (arith, cases.0)) _ _ _ cases.1 c.sum_lengths.ensures.contents c.get.ensures.lookup)

pub returns-in_default-split_entry-clause-skips : goal.returns-in_default-split_entry-clause-skips
returns-in_default-split_entry-clause-skips c = λ ks rest h.
    let cases = c.in-Some.ensures.cases in
    let enough : 4 * c.args.count ≤ length c.args.words.now = omega (arith, cases.0) in
    let after = bytes_after c.args.count ks _ _ rest h enough _ _ _ cases.1 c.sum_lengths.ensures.contents c.get.ensures.lookup in
    no_other c.args.count ks _ _ rest h enough _ _ cases.2 (rw c.in-Some-get.is at after) _ c.in_default-split_entry.ensures

pub returns-in-Less-clause-skips : goal.returns-in-Less-clause-skips
returns-in-Less-clause-skips c = λ ks rest h.
    let cases = c.in-Some.ensures.cases in
    let enough : 4 * c.args.count ≤ length c.args.words.now = omega (arith, cases.0) in
    let after = bytes_after c.args.count ks _ _ rest h enough _ _ _ cases.1 c.sum_lengths.ensures.contents c.get.ensures.lookup in
    let less = sym c.bytes_cmp.ensures ∙ c.in-Less.is in
    below_others c.args.count ks _ _ rest h enough _ _ cases.2 (rw c.in-Some-get.is at after) _ _ _ _ _ c.in-Some-split_entry.ensures less

pub returns-in-Equal : goal.returns-in-Equal
returns-in-Equal c =
    let cases = c.in-Some.ensures.cases in
    let enough : 4 * c.args.count ≤ length c.args.words.now = omega (arith, cases.0) in
    record {
      skips = λ ks rest h.
          let after = bytes_after c.args.count ks _ _ rest h enough _ _ _ cases.1 c.sum_lengths.ensures.contents c.get.ensures.lookup in
          let other : slice_cmp nat_cmp c.args.name.now c.in-Some-split_entry.next.content.now ≢ Less = λ less. elim c.in-Equal.is [
            | inl e ↦ cc (c.bytes_cmp.ensures)
            | inr e ↦ cc (c.bytes_cmp.ensures)
          ] in
          block_skipped c.args.count ks _ _ rest h enough _ _ cases.2 (rw c.in-Some-get.is at after) _ _ _ _ _ c.in-Some-split_entry.ensures other;
      size = (omega (arith, cases.4, c.requires.some), rw c.in-Some-get.is at (IsPart-size _ _ _ c.get.ensures.lookup));
      errors = tt;
    }
