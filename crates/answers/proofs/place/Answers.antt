use mathlib.Core.Path.{sym}
use Rattle.answers.specs.Answers.{place_of}
use Rattle.answers.proofs.Places.{points-nowhere, other-nowhere}
use Rattle.answers.proofs.place.Goals as goal

pub returns-in-Unwritten : goal.returns-in-Unwritten
unfolding place_of
returns-in-Unwritten c = rw c.in-Unwritten.is

pub returns-in-Limits : goal.returns-in-Limits
unfolding place_of
returns-in-Limits c = rw c.in-Limits.is

pub returns-in-Again : goal.returns-in-Again
unfolding place_of
returns-in-Again c = rw c.in-Again.is

pub returns-in-Undeclared : goal.returns-in-Undeclared
unfolding place_of
returns-in-Undeclared c = rw c.in-Undeclared.is

pub returns-in-Past : goal.returns-in-Past
unfolding place_of
returns-in-Past c = rw c.in-Past.is

pub returns-in-Unfit : goal.returns-in-Unfit
unfolding place_of
returns-in-Unfit c = rw c.in-Unfit.is

pub returns-in_default : goal.returns-in_default
returns-in_default c =
    let d = c.in_default in
    sym (points-nowhere c.args.a (other-nowhere c.args.a d.not-Unwritten d.not-Limits d.not-Again d.not-Undeclared d.not-Past d.not-Unfit))
