use Rattle.jsonb_doc.proofs.Lemmas.{arith, ap, sym, ◌∙◌, length, position_after, position_found, position_missing, position_last}
use Rattle.jsonb_doc.proofs.key_search.key_position.Goals as goal

pub loop-key-preserved : goal.loop-key-preserved
loop-key-preserved c =
    let first = c.in-Some.ensures in
    record {
      bound = omega (arith, c.loop-key.invariant.bound, ap length first.words_joined);
      left = λ ks rest h.
          let l = c.loop-key.invariant.left ks rest h in
          position_after _ ks _ _ rest _ _ h l _ _ _ _ first (sym c.bytes_cmp.ensures ∙ c.in-Less.is);
    }

pub returns-in-Equal-clause-position : goal.returns-in-Equal-clause-position
returns-in-Equal-clause-position c = λ ks rest h.
    let l = c.loop-key.invariant.left ks rest h in
    position_found _ ks _ _ rest _ _ h l _ _ _ _ c.in-Some.ensures (sym c.bytes_cmp.ensures ∙ c.in-Equal.is)

pub returns-in-Greater-clause-position : goal.returns-in-Greater-clause-position
returns-in-Greater-clause-position c = λ ks rest h.
    let l = c.loop-key.invariant.left ks rest h in
    position_missing _ ks _ _ rest _ _ h l _ _ _ _ c.in-Some.ensures (sym c.bytes_cmp.ensures ∙ c.in-Greater.is)

pub returns-clause-position : goal.returns-clause-position
returns-clause-position c = λ ks rest h.
    let l = c.loop-key.invariant.left ks rest h in
    position_last _ ks _ _ rest _ _ h l c.in_default.ensures
