use Rattle.jsonb_raw.proofs.Lemmas.{arith, ◌≢◌, ℕ, List, inl, inr, sym, ◌∙◌, number_reader, any, Tree, IsContent, eqb-true, number, short_value, Item, IsItemOf}
use Rattle.jsonb_raw.proofs.functions.entries.check_scalar.Goals as goal

scalar_read : (kind : ℕ) (content : List ℕ) (item : Item) → kind ≢ 5 → IsItemOf kind content item → (t : Tree) × IsContent (number_reader any) t kind content
scalar_read kind content item other h = grind arith

pub returns-then-is_text-clause-whole : goal.returns-then-is_text-clause-whole
returns-then-is_text-clause-whole c = λ other. inl (eqb-true _ _ (sym c.is_text.ensures ∙ c.if-is_text.true))

pub returns-in-Some-clause-whole : goal.returns-in-Some-clause-whole
returns-in-Some-clause-whole c = λ other. inr (number (short_value c.in-Some.field-0), (c.in-Some.ensures.kind, c.in-Some.ensures.number))

pub returns-clause-whole : goal.returns-clause-whole
returns-clause-whole c = λ other. inr (scalar_read _ _ c.in_ok-item.field-0 other c.in_ok-item.ensures.reads)
