use Rattle.jsonb_raw.proofs.Lemmas.{◌≡◌, ◌≢◌, ◌⊎◌, ◌++◌, ◌^◌, ◌<◌, ℕ, List, length, inl, inr, arith, number_reader, any, Tree, IsContent, entry_decodes, kind_known, other_kind, kind_number, Container, ◌∙◌, header, scalar_header, entry_word, IsHeaded, IsWhole}
use Rattle.jsonb_raw.proofs.functions.entries.entry_document.Goals as goal

module _ (content made : List ℕ) where
  container_whole : made ≡ content → IsHeaded 4 content ⊎ IsHeaded 2 content → IsWhole made
  container_whole same h = rw same (inr (inr h))

  scalar_whole : (kind : ℕ) → kind < 8 → kind ≢ 5 → length content < 2 ^ 28
      → made ≡ header scalar_header 0 ++ (entry_word kind (length content) ++ content)
      → (kind ≡ 1) ⊎ ((t : Tree) × IsContent (number_reader any) t kind content) → IsWhole made
  scalar_whole kind known scalar short same (inl text) = inr (inl (content, rw text at same))
  scalar_whole kind known scalar short same (inr h) =
      inl (h.0, record { document = rw same (entry_decodes (number_reader any) h.0 kind content known scalar short h.1) })

pub returns-then-eq-clause-whole : goal.returns-then-eq-clause-whole
returns-then-eq-clause-whole c = grind (arith, container_whole)

pub returns-clause-whole : goal.returns-clause-whole
returns-clause-whole c =
    let other : kind_number c.args.kind ≢ 5 = other_kind _ c.args.kind Container c.eq.ensures c.if-eq.false in
    scalar_whole c.args.content.now c.new-2.result (kind_number c.args.kind) (kind_known _) other (omega arith)
    (c.new-2.ensures ∙ c.in_ok-scalar_document.ensures) (c.in_ok-check_scalar.ensures.whole other)
