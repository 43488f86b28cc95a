use Rattle.run_host.specs.Moment.{apart}
use Rattle.run_host.proofs.Along.{anywhere}
use Rattle.std.proofs.Common.{ap}
use Rattle.turk_base.specs.Prog.{value}
use Rattle.js_tree.specs.Operate.{type_of, kind_type}
use Rattle.value_cells.specs.Seen.{val_in, kind_in}
use Rattle.run_host.proofs.Fits.{runs_on}
use Rattle.host_steps.proofs.Made.{runs_as}
use Rattle.value_rows.proofs.types.type_of.Goals as goal

pub returns-in-Undefined-clause-ran : goal.returns-in-Undefined-clause-ran
returns-in-Undefined-clause-ran g c = runs_as (λ nu. ap (λ v. type_of (val_in nu v)) c.in-Undefined.is) (anywhere (g.H.Host.moment c.args.host.now) (c.word.ensures.ran (apart (g.H.Host.moment c.args.host.now))))

pub returns-in-Null-clause-ran : goal.returns-in-Null-clause-ran
returns-in-Null-clause-ran g c = runs_as (λ nu. ap (λ v. type_of (val_in nu v)) c.in-Null.is) (anywhere (g.H.Host.moment c.args.host.now) (c.word-in-Null.ensures.ran (apart (g.H.Host.moment c.args.host.now))))

pub returns-in-Truth-clause-ran : goal.returns-in-Truth-clause-ran
returns-in-Truth-clause-ran g c = runs_as (λ nu. ap (λ v. type_of (val_in nu v)) c.in-Truth.is) (anywhere (g.H.Host.moment c.args.host.now) (c.word-in-Truth.ensures.ran (apart (g.H.Host.moment c.args.host.now))))

pub returns-in-Number-clause-ran : goal.returns-in-Number-clause-ran
returns-in-Number-clause-ran g c = runs_as (λ nu. ap (λ v. type_of (val_in nu v)) c.in-Number.is) (anywhere (g.H.Host.moment c.args.host.now) (c.word-in-Number.ensures.ran (apart (g.H.Host.moment c.args.host.now))))

pub returns-in-Text-clause-ran : goal.returns-in-Text-clause-ran
returns-in-Text-clause-ran g c = runs_as (λ nu. ap (λ v. type_of (val_in nu v)) c.in-Text.is) (anywhere (g.H.Host.moment c.args.host.now) (c.word-in-Text.ensures.ran (apart (g.H.Host.moment c.args.host.now))))

pub returns-in-Function-clause-ran : goal.returns-in-Function-clause-ran
returns-in-Function-clause-ran g c = runs_as (λ nu. ap (λ v. type_of (val_in nu v)) c.in-Object.is) (runs_on (λ nu kind. value (kind_type kind)) c.kind.ensures.did
    (runs_as (λ nu. ap (λ k. value (kind_type (kind_in nu k))) c.in-Function.is) (anywhere (g.H.Host.moment c.args.host.now) (c.word-in-Function.ensures.ran (apart (g.H.Host.moment c.args.host.now))))))

pub returns-in-BuiltIn-clause-ran : goal.returns-in-BuiltIn-clause-ran
returns-in-BuiltIn-clause-ran g c = runs_as (λ nu. ap (λ v. type_of (val_in nu v)) c.in-Object.is) (runs_on (λ nu kind. value (kind_type kind)) c.kind.ensures.did
    (runs_as (λ nu. ap (λ k. value (kind_type (kind_in nu k))) c.in-BuiltIn.is) (anywhere (g.H.Host.moment c.args.host.now) (c.word-in-BuiltIn.ensures.ran (apart (g.H.Host.moment c.args.host.now))))))

pub returns-in-Frame-clause-ran : goal.returns-in-Frame-clause-ran
returns-in-Frame-clause-ran g c = runs_as (λ nu. ap (λ v. type_of (val_in nu v)) c.in-Object.is) (runs_on (λ nu kind. value (kind_type kind)) c.kind.ensures.did
    (runs_as (λ nu. ap (λ k. value (kind_type (kind_in nu k))) c.in-Frame.is) (anywhere (g.H.Host.moment c.args.host.now) (c.word-in-Frame.ensures.ran (apart (g.H.Host.moment c.args.host.now))))))

pub returns-in-Plain-clause-ran : goal.returns-in-Plain-clause-ran
returns-in-Plain-clause-ran g c = runs_as (λ nu. ap (λ v. type_of (val_in nu v)) c.in-Object.is) (runs_on (λ nu kind. value (kind_type kind)) c.kind.ensures.did
    (runs_as (λ nu. ap (λ k. value (kind_type (kind_in nu k))) c.in-Plain.is) (anywhere (g.H.Host.moment c.args.host.now) (c.word-in-Plain.ensures.ran (apart (g.H.Host.moment c.args.host.now))))))

pub returns-in-Array-clause-ran : goal.returns-in-Array-clause-ran
returns-in-Array-clause-ran g c = runs_as (λ nu. ap (λ v. type_of (val_in nu v)) c.in-Object.is) (runs_on (λ nu kind. value (kind_type kind)) c.kind.ensures.did
    (runs_as (λ nu. ap (λ k. value (kind_type (kind_in nu k))) c.in-Array.is) (anywhere (g.H.Host.moment c.args.host.now) (c.word-in-Array.ensures.ran (apart (g.H.Host.moment c.args.host.now))))))
