use Rattle.std.proofs.Common.{◌∙◌, Some, None}
use Rattle.arguments.proofs.ArgumentText.{minus, plain}
use Rattle.arguments.proofs.half.place_of.Goals as goal

pub returns-in_err-digits_of-in-Some : goal.returns-in_err-digits_of-in-Some
returns-in_err-digits_of-in-Some c =
    let m = c.in-Some.ensures.cases in
    c.from_residual.ensures ∙ minus c.args.text.now None c.in-Some.digits.now m.0 m.1 c.in_err-digits_of-in-Some.ensures

pub returns-in_ok-digits_of-in-Some : goal.returns-in_ok-digits_of-in-Some
returns-in_ok-digits_of-in-Some c =
    let m = c.in-Some.ensures.cases in
    minus c.args.text.now (Some c.in_ok-digits_of-in-Some.field-0) c.in-Some.digits.now m.0 m.1 c.in_ok-digits_of-in-Some.ensures

pub returns-in_err-digits_of-in-None : goal.returns-in_err-digits_of-in-None
returns-in_err-digits_of-in-None c =
    c.from_residual-in_err-digits_of-in-None.ensures ∙ plain c.args.text.now None c.in-None.ensures.cases c.in_err-digits_of-in-None.ensures

pub returns-in_ok-digits_of-in-None : goal.returns-in_ok-digits_of-in-None
returns-in_ok-digits_of-in-None c =
    plain c.args.text.now (Some c.in_ok-digits_of-in-None.field-0) c.in-None.ensures.cases c.in_ok-digits_of-in-None.ensures
