use Rattle.jsonb_raw.proofs.Lemmas.{◌≡◌, Option, None, false, sym, ap, ◌∙◌, arith, option_or, Tree, Pairs, object, value_under, Form, number_reader, Holds, HasPairParts, ObjectParts, Decodes-object, named_child, found_made, found_none}
use Rattle.jsonb_doc.specs.declared.container.Container.TheVariants.{Object}
use Rattle.jsonb_raw.proofs.raw.RawJsonb.get_by_name.Goals as goal

or_none : (found : Option Tree) → option_or found None ≡ found
or_none found = grind arith

-- a tree with the parts of an object is one
object_with : (form : Form) (t : Tree) (p : ObjectParts) → Holds (number_reader form) t (Object p)
    → (ps : Pairs) × (t ≡ object ps) × HasPairParts (number_reader form) ps p
object_with form t p h = grind arith

pub returns-in-Object-clause-value : goal.returns-in-Object-clause-value
returns-in-Object-clause-value c = λ form t d.
    let o = object_with form t c.in-Object.parts
    (Decodes-object form c.as_bytes-bytes.result.now c.in-Object.parts (rw c.in-Object.is at c.in_ok-parts.ensures.cut) t (rw c.as_bytes-bytes.ensures d)) in
    let name = c.args.name.now in
    let is : named_child name c.args.ignore_case t ≡ value_under name o.0 =
    ap (λ b. named_child name b t) c.if-ignore_case.false ∙ ap (named_child name false) o.1 ∙ or_none (value_under name o.0) in
    rw is (found_made form _ _ (c.value_of_key.ensures.found form o.0 o.2))

pub returns-in-Object-clause-none : goal.returns-in-Object-clause-none
returns-in-Object-clause-none c = λ form t d none.
    let o = object_with form t c.in-Object.parts
    (Decodes-object form c.as_bytes-bytes.result.now c.in-Object.parts (rw c.in-Object.is at c.in_ok-parts.ensures.cut) t (rw c.as_bytes-bytes.ensures d)) in
    let name = c.args.name.now in
    let is : named_child name c.args.ignore_case t ≡ value_under name o.0 =
    ap (λ b. named_child name b t) c.if-ignore_case.false ∙ ap (named_child name false) o.1 ∙ or_none (value_under name o.0) in
    found_none form _ _ (c.value_of_key.ensures.found form o.0 o.2) (sym is ∙ none)
