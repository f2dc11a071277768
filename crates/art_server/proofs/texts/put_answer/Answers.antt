use Rattle.std.proofs.Common.{sym, ◌∙◌}
use Rattle.art_server.proofs.TextLaws.{text_of_reply-inserted, text_of_reply-absent, text_of_reply-present, text_of_reply-removed, text_of_reply-found}
use Rattle.art_server.proofs.texts.put_answer.Goals as goal

pub returns-in-Inserted-clause-text : goal.returns-in-Inserted-clause-text
returns-in-Inserted-clause-text c = rw c.in-Inserted.is (c.put_word.ensures.text ∙ sym text_of_reply-inserted)

pub returns-in-Present-clause-text : goal.returns-in-Present-clause-text
returns-in-Present-clause-text c = rw c.in-Present.is (c.put_value.ensures.text ∙ sym (text_of_reply-present c.in-Present.value))

pub returns-in-Removed-clause-text : goal.returns-in-Removed-clause-text
returns-in-Removed-clause-text c =
    rw c.in-Removed.is (c.put_value-in-Removed.ensures.text ∙ sym (text_of_reply-removed c.in-Removed.value))

pub returns-in-Absent-clause-text : goal.returns-in-Absent-clause-text
returns-in-Absent-clause-text c = rw c.in-Absent.is (c.put_word-in-Absent.ensures.text ∙ sym text_of_reply-absent)

pub returns-in-Found-clause-text : goal.returns-in-Found-clause-text
returns-in-Found-clause-text c =
    rw c.in-Found.is (c.put_value-in-Found.ensures.text ∙ sym (text_of_reply-found c.in-Found.value))
