use Rattle.run_laws.proofs.ReadLines.{read_by_lines}
use Rattle.run_laws.proofs.Faults.{out_fails_last, script_fails_between_lines, strict_runs_reply_alike, replies_are_cut_short}
use Rattle.run_laws.proofs.WholeReplies.{whole_replies_stand}
use Rattle.run_laws.proofs.faults_cut_runs_short.Goals as goal

pub returns-clause-read : goal.returns-clause-read
returns-clause-read c = read_by_lines

pub returns-clause-out : goal.returns-clause-out
returns-clause-out c = out_fails_last

pub returns-clause-script : goal.returns-clause-script
returns-clause-script c = script_fails_between_lines

pub returns-clause-strict : goal.returns-clause-strict
returns-clause-strict c = strict_runs_reply_alike

pub returns-clause-replies : goal.returns-clause-replies
returns-clause-replies c = replies_are_cut_short

pub returns-clause-whole : goal.returns-clause-whole
returns-clause-whole c = whole_replies_stand
