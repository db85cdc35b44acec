-- Texts and the sessions that they spell, computed.
use Rattle.std.specs.Prelude.{◌≡◌, true, false, [], ◌∷◌, Ok, Err, codes, refl}
use Rattle.std.specs.Str.{is_utf8, chars}
use lib.Utf8.{encode}
use Rattle.hex.specs.Hex.{decode_pairs}
use Rattle.cluster_calls.specs.Calls.Call.{Each, Pipeline}
use Rattle.cluster_session.specs.Lines.{command_of, said_by}
use Rattle.cluster_session.specs.Script.{session_in_text}

pub nothing_sets_up_nothing : session_in_text []
    ≡ Ok (record { nodes = []; read_only = []; budget = 1; levels = 100; calls = [] })
unfolding said_by is_utf8 chars encode decode_pairs
nothing_sets_up_nothing = refl

-- a skipped line is counted too
pub the_third_line_is_bad : session_in_text (codes "# two lines\n\nnode") ≡ Err 3
unfolding said_by is_utf8 chars encode decode_pairs
the_third_line_is_bad = refl

pub a_budget_is_set_once : session_in_text (codes "budget 2\nbudget 2") ≡ Err 2
unfolding said_by is_utf8 chars encode decode_pairs
a_budget_is_set_once = refl

pub a_budget_comes_before_a_call : session_in_text (codes "fan 61\nbudget 2") ≡ Err 2
unfolding said_by is_utf8 chars encode decode_pairs
a_budget_comes_before_a_call = refl

pub levels_are_set_once : session_in_text (codes "levels 7\nlevels 7") ≡ Err 2
unfolding said_by is_utf8 chars encode decode_pairs
levels_are_set_once = refl

pub no_level_is_none : session_in_text (codes "levels 0") ≡ Err 1
unfolding said_by is_utf8 chars encode decode_pairs
no_level_is_none = refl

-- the line that begins it is the bad one, and not the text's last
pub a_pipeline_has_an_end : session_in_text (codes "pipe\ncmd 61\n") ≡ Err 1
unfolding said_by is_utf8 chars encode decode_pairs
a_pipeline_has_an_end = refl

pub a_pipeline_takes_its_commands :
    session_in_text (codes "budget 3\npipe\ncmd 61\nrun")
    ≡ Ok (record {
      nodes = [];
      read_only = [];
      budget = 3;
      levels = 100;
      calls = Pipeline (record { command = command_of ((97 ∷ []) ∷ []); ignored = false } ∷ []) ∷ [];
    })
unfolding said_by is_utf8 chars encode decode_pairs
a_pipeline_takes_its_commands = refl

-- of two pipelines the first tells of each of its commands, and the second has none
pub each_pipeline_is_told_as_it_began :
    session_in_text (codes "each\nskip 61\nrun\npipe\nrun")
    ≡ Ok (record {
      nodes = [];
      read_only = [];
      budget = 1;
      levels = 100;
      calls = Each (record { command = command_of ((97 ∷ []) ∷ []); ignored = true } ∷ []) ∷ Pipeline [] ∷ [];
    })
unfolding said_by is_utf8 chars encode decode_pairs
each_pipeline_is_told_as_it_began = refl
