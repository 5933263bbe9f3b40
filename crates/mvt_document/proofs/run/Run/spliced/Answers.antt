use Rattle.std.proofs.Common.{◌++◌, length-append, take, arith}
use Rattle.std.proofs.lemmas.List.{length-take-le}
use Rattle.mvt_document.proofs.Running.{run_more}
use Rattle.mvt_document.proofs.run.Run.spliced.Goals as goal

pub returns-in-Some-with_back : goal.returns-in-Some-with_back
returns-in-Some-with_back c = λ items come h inside p same.
    let i = c.args.index in
    let long = length-take-le i items inside in
    let middle = c.in-Some.ensures (take i items) come (c.front-front.ensures.items items h) (omega (arith, long, c.front-front.ensures.until, c.if-self-index.false)) p in
    c.in-Some-with_back.ensures items (take i items ++ come) h middle (omega (arith, long, same, length-append (take i items) come))

pub returns-in-None : goal.returns-in-None
returns-in-None c = λ items come h inside p same.
    let i = c.args.index in
    let long = length-take-le i items inside in
    run_more _ _ _ (c.in-Some.ensures (take i items) come (c.front-front.ensures.items items h) (omega (arith, long, c.front-front.ensures.until, c.if-self-index.false)) p)

pub returns-then-self-index : goal.returns-then-self-index
returns-then-self-index c = λ items come h inside p same. run_more _ _ _ (run_more _ _ _ (c.front-front.ensures.items items h))

pub returns-in_default : goal.returns-in_default
returns-in_default c = λ items come h inside p same. run_more _ _ _ (run_more _ _ _ (c.front-front.ensures.items items h))
