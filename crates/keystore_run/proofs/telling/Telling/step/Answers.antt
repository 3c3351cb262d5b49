use Rattle.keystore_run.proofs.Answering.{of_replies, of_trace, traced}
use Rattle.keystore_run.proofs.telling.Telling.step.Goals as goal

pub returns-in-Reply-clause-text : goal.returns-in-Reply-clause-text
returns-in-Reply-clause-text c = λ written event tells. rw (of_replies written event (rw c.in-Reply.is at tells)) c.answer_of.ensures.text

pub returns-in-Reply-clause-is : goal.returns-in-Reply-clause-is
returns-in-Reply-clause-is c = λ written event tells. rw (of_replies written event (rw c.in-Reply.is at tells)) c.answer_of.ensures.is

pub returns-in-Entries-clause-text : goal.returns-in-Entries-clause-text
returns-in-Entries-clause-text c = λ written event tells.
    let both = of_trace written c.in-Entries.told event (rw c.in-Entries.is at tells) in
    rw both.0 (c.with_text.ensures.text _ (c.step_lines-lines.ensures event both.1))

pub returns-in-Entries-clause-is : goal.returns-in-Entries-clause-is
returns-in-Entries-clause-is c = λ written event tells. rw (of_trace written c.in-Entries.told event (rw c.in-Entries.is at tells)).0 (traced c.with_text.result)
