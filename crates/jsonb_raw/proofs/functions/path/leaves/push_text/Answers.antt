use Rattle.jsonb_raw.proofs.Lemmas.{◌≡◌, sym, ◌∙◌, refl, MatchResult-weaker, text, number_reader, text_content}
use Rattle.jsonb_raw.proofs.functions.path.leaves.push_text.Goals as goal

pub returns-in-Ok-clause-leaf : goal.returns-in-Ok-clause-leaf
returns-in-Ok-clause-leaf c = λ form t content.
    let same : text c.in-Ok.text.now ≡ t = rw c.in-Ok.ensures.cases.0 (sym (text_content (number_reader form) 1 c.args.bytes.now t refl content).0) in
    MatchResult-weaker c.push_part.result c.push_part.ensures
    (λ _ pushed. record {
      part = c.text_value.result;
      pushed = pushed;
      is = (c.text_value.ensures.tree ∙ same, c.text_value.ensures.parts ∙ same);
    }) (λ e refused. refused)
