use Rattle.jsonb_raw.proofs.Lemmas.{arith, ◌≡◌, ◌∙◌, sym, List, ℕ, ap, refl, true≢false, Option, Some, None, Result, Ok, Err, IfOk, IfSome, AreBytes, Tree, canonical, Decodes, Error, one_canonical_document, OwnedJsonb, Makes, MakesOption}
use Rattle.jsonb_raw.proofs.laws.results_are_determined.Goals as goal

one_document : (t : Tree) (made other : List ℕ) → Decodes canonical made t → Decodes canonical other t
    → AreBytes made → AreBytes other → other ≡ made
one_document t made other h k all all' =
    one_canonical_document other t all' k ∙ sym (one_canonical_document made t all h)

documents : (t : Tree) (r s : Result OwnedJsonb Error) → Makes canonical t r → Makes canonical t s
    → IfOk r (λ made. IfOk s (λ other. AreBytes made → AreBytes other → other ≡ made))
documents t (Ok made) (Ok other) h k = one_document t made other h k
documents t (Ok made) (Err e) h k = tt
documents t (Err e) s h k = tt

options : (found : Option Tree) (r s : Result (Option OwnedJsonb) Error)
    → MakesOption canonical found r → MakesOption canonical found s
    → IfOk r (λ made. IfOk s (λ other. IfSome made AreBytes → IfSome other AreBytes → other ≡ made))
options (Some t) (Ok (Some made)) (Ok (Some other)) h k = λ all all'. ap Some (one_document t made other h k all all')
options (Some t) (Ok (Some made)) (Ok None) h k = elim k [ ]
options (Some t) (Ok None) (Ok other) h k = elim h [ ]
options None (Ok None) (Ok None) h k = λ all all'. refl
options None (Ok None) (Ok (Some other)) h k = elim (true≢false k) [ ]
options None (Ok (Some made)) (Ok other) h k = elim (true≢false h) [ ]
options found (Ok made) (Err e) h k = tt
options found (Err e) s h k = tt

pub returns-clause-documents : goal.returns-clause-documents
returns-clause-documents g c = documents

pub returns-clause-options : goal.returns-clause-options
returns-clause-options g c = options

pub returns-clause-refined : goal.returns-clause-refined
returns-clause-refined g c = grind arith

pub returns-clause-refused : goal.returns-clause-refused
returns-clause-refused g c = grind arith
