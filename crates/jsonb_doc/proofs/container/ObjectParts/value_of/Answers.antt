use Rattle.jsonb_doc.proofs.Lemmas.{◌-◌, length, refl, value_absent, keys_behind, value_there, value_entry}
use Rattle.jsonb_doc.proofs.container.ObjectParts.value_of.Goals as goal

pub returns-in_default-clause-value : goal.returns-in_default-clause-value
returns-in_default-clause-value c = λ number_at ps held.
    value_absent number_at c.args.name.now ps c.args.self.now held (rw c.in_default.is at c.in_ok-found.ensures.found)

pub returns-in_default-skip_contents-clause-value : goal.returns-in_default-skip_contents-clause-value
returns-in_default-skip_contents-clause-value c = λ number_at ps held.
    let keys = keys_behind number_at _ ps _ held _ _ (rw c.in-Some.is at c.in_ok-found.ensures.found) in
    c.in_default-skip_contents.ensures.rest keys.0 keys.1 keys.2

pub returns-in-Some-entry_at_offset-clause-value : goal.returns-in-Some-entry_at_offset-clause-value
returns-in-Some-entry_at_offset-clause-value c = λ number_at ps held.
    value_entry number_at _ ps _ held _ _ (rw c.in-Some.is at c.in_ok-found.ensures.found) _ c.in-Some-skip_contents.ensures.rest
    (length c.args.self.now.key_words.now - length c.in-Some.words_behind.now - 4) refl _ c.in-Some-entry_at_offset.ensures.entry

pub returns-in-None-clause-value : goal.returns-in-None-clause-value
returns-in-None-clause-value c = λ number_at ps held.
    let (value, under, at) = value_there number_at _ ps _ held _ _ (rw c.in-Some.is at c.in_ok-found.ensures.found) _ c.in-Some-skip_contents.ensures.rest
    (length c.args.self.now.key_words.now - length c.in-Some.words_behind.now - 4) refl in
    c.in-None.ensures.entry at.parts at.left at.before at.kind at.content at.ws at.cs at.begin
