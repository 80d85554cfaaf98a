use Rattle.jsonb_raw.proofs.Lemmas.{◌≡◌, sym, ap, ◌∙◌, rules, MatchResult-weaker, null, number_reader, kind_number, value_tree, value_parts, the_lemmas, null_content}
use Rattle.jsonb_doc.specs.declared.value.Value.{Null}
use Rattle.std.proofs.Common.{Result, Ok, Err, OnOk}
use Rattle.jsonb_raw.proofs.functions.path.leaves.ValueLeafOutput.push_leaf.Goals as goal

if_ok : {A E : Type 0} (P : Type 0) (r : Result A E) → P → OnOk r P
if_ok P (Ok x) p = p
if_ok P (Err e) p = tt

pub returns-in-Text-clause-whole : goal.returns-in-Text-clause-whole
returns-in-Text-clause-whole c = λ _. if_ok _ c.push_text.result (λ k d h. tt)

pub returns-in-Null-clause-whole : goal.returns-in-Null-clause-whole
returns-in-Null-clause-whole c = λ _. if_ok _ c.push_part.result (λ k d h. tt)

pub returns-in-Container-clause-whole : goal.returns-in-Container-clause-whole
returns-in-Container-clause-whole c = λ _. if_ok _ c.push_item.result (λ k d h. tt)

pub returns-in_default-clause-whole : goal.returns-in_default-clause-whole
returns-in_default-clause-whole c = λ _. if_ok _ c.push_value.result (λ k d h. tt)

pub returns-in-Null-clause-leaf : goal.returns-in-Null-clause-leaf
returns-in-Null-clause-leaf c = λ form t stored.
    let entry = c.args.entry.now in
    let same = sym (null_content (number_reader form) (kind_number entry.kind) entry.content.now t (ap kind_number c.in-Null.is) stored.content) in
    let tree : value_tree Null ≡ null = search (rules, the_lemmas) in
    let with_parts : value_parts Null ≡ null = search (rules, the_lemmas) in
    MatchResult-weaker c.push_part.result c.push_part.ensures
    (λ _ pushed. record { part = Null; pushed = pushed; is = (tree ∙ same, with_parts ∙ same) }) (λ e refused. refused)
