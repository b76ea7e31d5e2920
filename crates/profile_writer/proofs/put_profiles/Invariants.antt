-- Each turn writes a block and the structure that leads to it, whose tuple is read from the places of the tuples.
use Rattle.profile_lists.specs.Lists.{survey_of}
use Rattle.profile_writer.proofs.Profiles.{Growing}
use Rattle.profile_writer.proofs.put_profiles.Given as goal

abbrev pub invariant-loop-p : goal.invariant-loop-p
invariant-loop-p l = Growing (survey_of l.profiles l.tuples l.identifiers l.entries) l.initial.file l.file l.p l.start l.at
