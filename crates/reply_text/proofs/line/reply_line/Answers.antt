use Rattle.std.proofs.Common.{ℕ, List, sym, ap, ◌∙◌, subst}
use Rattle.std.specs.Prelude.{MatchOption}
use Rattle.reply_text.specs.Leaves.{IsLine}
use Rattle.reply_text.specs.LeafData.{leaves_of, IsNoLine}
use Rattle.reply_text.specs.Lines.{IsText}
use Rattle.reply_text.proofs.Texts.{first_text, second_text}
use Rattle.reply_text.proofs.LeafCalls.{one_list}
use Rattle.reply_text.proofs.line.reply_line.Goals as goal

pub returns-in_default : goal.returns-in_default
returns-in_default c = λ token answer size h.
    let bare = subst (λ o. MatchOption o (IsNoLine c.args.line.now) (λ v. IsLine c.args.line.now (leaves_of v.items))) c.in_default.is c.in_ok-leaves.ensures in
    bare _ h.two_texts

pub returns-in_default-two_texts : goal.returns-in_default-two_texts
returns-in_default-two_texts c = λ token answer size h.
    let line = subst (λ o. MatchOption o (IsNoLine c.args.line.now) (λ v. IsLine c.args.line.now (leaves_of v.items))) c.in-Some.is c.in_ok-leaves.ensures in
    c.in_default-two_texts.ensures _ _ (ap leaves_of c.as_slice.ensures.value ∙ one_list c.args.line.now _ _ line h.two_texts)

pub returns-in_default-2 : goal.returns-in_default-2
returns-in_default-2 c = λ token answer size h.
    let line = subst (λ o. MatchOption o (IsNoLine c.args.line.now) (λ v. IsLine c.args.line.now (leaves_of v.items))) c.in-Some.is c.in_ok-leaves.ensures in
    let same = sym c.in-Some-two_texts.ensures ∙ ap leaves_of c.as_slice.ensures.value ∙ one_list c.args.line.now _ _ line h.two_texts in
    let first = c.in-Some-two_texts.first.now in
    let bare = subst (λ o. MatchOption o ((units : List ℕ) → IsText first units → ⊥) (λ units. IsText first units)) c.in_default-2.is c.in_ok-token.ensures in
    bare token (subst (λ (b : List ℕ). IsText b token) (sym (first_text _ _ _ _ same)) h.token_is)

pub returns-in_default-3 : goal.returns-in_default-3
returns-in_default-3 c = λ token answer size h.
    let line = subst (λ o. MatchOption o (IsNoLine c.args.line.now) (λ v. IsLine c.args.line.now (leaves_of v.items))) c.in-Some.is c.in_ok-leaves.ensures in
    let same = sym c.in-Some-two_texts.ensures ∙ ap leaves_of c.as_slice.ensures.value ∙ one_list c.args.line.now _ _ line h.two_texts in
    let second = c.in-Some-two_texts.second.now in
    let bare = subst (λ o. MatchOption o ((units : List ℕ) → IsText second units → ⊥) (λ units. IsText second units)) c.in_default-3.is c.in_ok-answer.ensures in
    bare answer (subst (λ (b : List ℕ). IsText b answer) (sym (second_text _ _ _ _ same)) h.answer_is)
