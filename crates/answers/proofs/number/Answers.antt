use Rattle.answers.specs.Answers.{number_of}
use Rattle.answers.proofs.number.Goals as goal

pub returns-in-Taken : goal.returns-in-Taken
unfolding number_of
returns-in-Taken c = rw c.in-Taken.is

pub returns-in-Lengths : goal.returns-in-Lengths
unfolding number_of
returns-in-Lengths c = rw c.in-Lengths.is

pub returns-in-Font : goal.returns-in-Font
unfolding number_of
returns-in-Font c = rw c.in-Font.is

pub returns-in-Unsound : goal.returns-in-Unsound
unfolding number_of
returns-in-Unsound c = rw c.in-Unsound.is

pub returns-in-Unended : goal.returns-in-Unended
unfolding number_of
returns-in-Unended c = rw c.in-Unended.is

pub returns-in-Long : goal.returns-in-Long
unfolding number_of
returns-in-Long c = rw c.in-Long.is

pub returns-in-Unwritten : goal.returns-in-Unwritten
unfolding number_of
returns-in-Unwritten c = rw c.in-Unwritten.is

pub returns-in-Limits : goal.returns-in-Limits
unfolding number_of
returns-in-Limits c = rw c.in-Limits.is

pub returns-in-Owing : goal.returns-in-Owing
unfolding number_of
returns-in-Owing c = rw c.in-Owing.is

pub returns-in-Misplaced : goal.returns-in-Misplaced
unfolding number_of
returns-in-Misplaced c = rw c.in-Misplaced.is

pub returns-in-InUse : goal.returns-in-InUse
unfolding number_of
returns-in-InUse c = rw c.in-InUse.is

pub returns-in-Missing : goal.returns-in-Missing
unfolding number_of
returns-in-Missing c = rw c.in-Missing.is

pub returns-in-Again : goal.returns-in-Again
unfolding number_of
returns-in-Again c = rw c.in-Again.is

pub returns-in-Undeclared : goal.returns-in-Undeclared
unfolding number_of
returns-in-Undeclared c = rw c.in-Undeclared.is

pub returns-in-Past : goal.returns-in-Past
unfolding number_of
returns-in-Past c = rw c.in-Past.is

pub returns-in-Unfit : goal.returns-in-Unfit
unfolding number_of
returns-in-Unfit c = rw c.in-Unfit.is

pub returns-in-Illegal : goal.returns-in-Illegal
unfolding number_of
returns-in-Illegal c = rw c.in-Illegal.is

pub returns-in-Misfit : goal.returns-in-Misfit
unfolding number_of
returns-in-Misfit c = rw c.in-Misfit.is

pub returns-in-Unset : goal.returns-in-Unset
unfolding number_of
returns-in-Unset c = rw c.in-Unset.is

pub returns-in-RunsOut : goal.returns-in-RunsOut
unfolding number_of
returns-in-RunsOut c = rw c.in-RunsOut.is

pub returns-in-FewPortions : goal.returns-in-FewPortions
unfolding number_of
returns-in-FewPortions c = rw c.in-FewPortions.is

pub returns-in-NoEntry : goal.returns-in-NoEntry
unfolding number_of
returns-in-NoEntry c = rw c.in-NoEntry.is

pub returns-in-Overlong : goal.returns-in-Overlong
unfolding number_of
returns-in-Overlong c = rw c.in-Overlong.is

pub returns-in-NoneOwed : goal.returns-in-NoneOwed
unfolding number_of
returns-in-NoneOwed c = rw c.in-NoneOwed.is
