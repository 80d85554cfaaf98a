use Rattle.jsonb_doc.proofs.Lemmas.{◌≡◌, ℕ, List, Option, Some, None, sym, ap, ◌∙◌, IfSome, Tree, number, any, number_of, IsContent, short_value, ShortNumber, number_content, some_injective}
use Rattle.jsonb_doc.proofs.spot.spot_number.Goals as goal

-- the number whose digits were read is the tree that is stored
short_tree : (found : Option ShortNumber) (kind : ℕ) (bytes : List ℕ) (t : Tree) → IfSome found (λ n. kind ≡ 2)
    → IfSome found (λ n. number_of bytes ≡ Some (short_value n)) → IsContent number_of t kind bytes → IfSome found (λ n. t ≡ number (short_value n))
short_tree None kind bytes t is read content = tt
short_tree (Some n) kind bytes t is read content =
    let stored = number_content number_of kind bytes t is content in
    stored.1 ∙ ap number (some_injective (sym stored.2 ∙ read))

pub returns-in_err-spot_entry-clause-number : goal.returns-in_err-spot_entry-clause-number
returns-in_err-spot_entry-clause-number c = λ t l. absurd (c.in_err-spot_entry.ensures.entry any l.whole t l.decodes l)

pub returns-clause-number : goal.returns-clause-number
returns-clause-number c = λ t l.
    short_tree _ _ _ t c.short_number.ensures.kind c.short_number.ensures.number (c.in_ok-spot_entry.ensures.entry any l.whole t l.decodes l)
