use Rattle.jsonb_raw.proofs.Lemmas.{rules, ◌≡◌, ℕ, List, not, IsTrue, sym, arith, in_any, number_of, Form, Decodes, Tree, is_extension_value, StandsFor, Item, ExtensionValue, contains-extension, contains_refl}
use Rattle.jsonb_doc.specs.declared.item.Item.TheVariants as item
use Rattle.jsonb_doc.proofs.OneTree.{document_unique}
use Rattle.jsonb_raw.proofs.functions.operator.contains.documents_contain.Goals as goal

pub returns-in-Extension-clause-answer : goal.returns-in-Extension-clause-answer
returns-in-Extension-clause-answer c = search (rules, contains-extension)

-- the same bytes decode to one tree
one_tree : (form other_form : Form) (bytes : List ℕ) (t u : Tree) → Decodes form bytes t → Decodes other_form bytes u → t ≡ u
one_tree form other_form bytes t u d e =
    document_unique number_of t u bytes (in_any form t bytes d).document (in_any other_form u bytes e).document

no_extension : (form : Form) (y : Item) (u : Tree) → StandsFor form y u → ((x : ExtensionValue) → y ≡ item.Extension x → ⊥)
    → IsTrue (not (is_extension_value u))
no_extension form y u h k = grind arith

pub returns-then-bytes_equal-clause-answer : goal.returns-then-bytes_equal-clause-answer
returns-then-bytes_equal-clause-answer c = λ form other_form tree wanted d e.
    let same : c.args.bytes.now ≡ c.args.others.now = c.bytes_equal.ensures.0 c.if-bytes_equal.true in
    let d' : Decodes form c.args.others.now tree = rw same at d in
    let stands = c.in_ok-wanted.ensures.decodes other_form wanted e in
    rw (one_tree form other_form c.args.others.now tree wanted d' e)
    (sym (contains_refl wanted (no_extension other_form c.in_ok-wanted.wanted wanted stands c.in_default.not-Extension)))

pub returns-then-bytes_equal-clause-reads : goal.returns-then-bytes_equal-clause-reads
returns-then-bytes_equal-clause-reads c =
    let same : c.args.bytes.now ≡ c.args.others.now = c.bytes_equal.ensures.0 c.if-bytes_equal.true in (
      (c.in_ok-wanted.wanted, rw same c.in_ok-wanted.ensures.readable),
      (c.in_ok-wanted.wanted, c.in_ok-wanted.ensures.readable),
    )

pub returns-in-Some-clause-answer : goal.returns-in-Some-clause-answer
returns-in-Some-clause-answer c = λ form other_form tree wanted d e.
    c.in-Some.ensures form other_form tree wanted (c.in_ok-item.ensures.decodes form tree d) (c.in_ok-wanted.ensures.decodes other_form wanted e)

pub returns-in-None-clause-answer : goal.returns-in-None-clause-answer
returns-in-None-clause-answer c = λ form other_form tree wanted d e.
    c.item_contains.ensures.answer form other_form tree wanted (c.in_ok-item.ensures.decodes form tree d)
    (c.in_ok-wanted.ensures.decodes other_form wanted e)
