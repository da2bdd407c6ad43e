use Rattle.sd_promise.proofs.SmallFiles.{small_is_asked, small_presents, small_files_say, small_is_printed}
use Rattle.sd_promise.proofs.laws.a_small_source_and_its_arrays_say_what_is_printed.Goals as goal

pub returns-clause-asked : goal.returns-clause-asked
returns-clause-asked c = small_is_asked

pub returns-clause-presented : goal.returns-clause-presented
returns-clause-presented c = small_presents

pub returns-clause-said : goal.returns-clause-said
returns-clause-said c = small_files_say

pub returns-clause-printed : goal.returns-clause-printed
returns-clause-printed c = small_is_printed
