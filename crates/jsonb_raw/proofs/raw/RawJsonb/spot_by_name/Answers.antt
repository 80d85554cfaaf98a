use Rattle.jsonb_raw.proofs.Lemmas.{◌≡◌, true, sym, ap, ◌∙◌, field_of, Decodes, in_any, named_child, exact_child}
use Rattle.jsonb_raw.proofs.raw.RawJsonb.spot_by_name.Goals as goal

pub returns-in_err-root-clause-value : goal.returns-in_err-root-clause-value
returns-in_err-root-clause-value c = λ form t d.
    let d' = in_any form t _ (rw c.as_bytes-bytes.ensures d) in absurd (c.in_err-root.ensures.marks t d')

pub returns-then-ignore_case-clause-value : goal.returns-then-ignore_case-clause-value
returns-then-ignore_case-clause-value c = λ form t d.
    let at : Decodes form c.as_bytes-bytes.result.now t = rw c.as_bytes-bytes.ensures d in
    let located = c.in_ok-root.ensures.marks t (in_any form t _ at) in
    let is : named_child c.args.name.now c.args.ignore_case t ≡ named_child c.args.name.now true t =
    ap (λ b. named_child c.args.name.now b t) c.if-ignore_case.true in
    rw (is, sym c.as_bytes-bytes.ensures) (c.spot_ignoring_case.ensures.value form t at located)

pub returns-clause-value : goal.returns-clause-value
returns-clause-value c = λ form t d.
    let at : Decodes form c.as_bytes-bytes.result.now t = rw c.as_bytes-bytes.ensures d in
    let located = c.in_ok-root.ensures.marks t (in_any form t _ at) in
    let is : named_child c.args.name.now c.args.ignore_case t ≡ field_of c.args.name.now t =
    ap (λ b. named_child c.args.name.now b t) c.if-ignore_case.false ∙ exact_child c.args.name.now t in
    rw (is, sym c.as_bytes-bytes.ensures) (c.field_spot.ensures.field t located)
