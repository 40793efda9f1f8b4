-- The trials and the samples hold, by computation. Assumes nothing.
use mathlib.Core.Path.{◌≡◌, refl}
use mathlib.Core.List.{map}
use Rattle.answer.specs.Answer.{rows_bytes}
use Rattle.board.specs.Reply.{board_reply, board_rounds}
use Rattle.board_text.specs.Board.{board_code, count_code, first_code, queries_of}
use Rattle.engine.specs.Run.{sources_code}
use Rattle.graph.specs.Graph.{counts_code, edge_code, edges_code, edges_in, graph_code}
use Rattle.meaning.specs.Run.{pull, push, run, stopped}
use Rattle.query.specs.Query.{query_code, query_scan}
use Rattle.query.specs.Tree.{query_of}
use Rattle.plan.specs.Plan.{body_scan, plan_code, entries_scan, entry_scan, expressions_scan, final_scan, moved, plan_scan, listed_at, listed_code}
use Rattle.plan.specs.Plan.{listed_end, listed_keys_code, listed_scan, listed_starts_code, listed_step}
use Rattle.fusion.specs.Fusion.{fuse_reply}
use Rattle.term_text.specs.Tree.{query_term_of, starts_of, written_path, written_reduction}
use Rattle.packed_path.specs.Packed.{same_packed, with_first}
use Rattle.path_fields.specs.Paths.{counted_sources, key_fields_code, keys_at, keys_code, one_source, path_at, path_code, set_at, set_code, sources_at}
use Rattle.path_fields.specs.Paths.{starts_code}
use Rattle.terms.specs.Terms.{advanced, apply_step, kept_path, leaf_step, literal_tag, path_step, read, reduce_step, index_step, literal_step, set_step}
use Rattle.terms.specs.Terms.{slot_of, term_step}
use Rattle.progress.specs.Progress.{blank, ended, started}
use Rattle.value.specs.declared.Value.{Value}
use Rattle.value.specs.Value.{combine, compute}
use Rattle.walks.specs.Keys.{key_row}
use Rattle.walks.specs.Rounds.{best, first, gather, marked, rounds, state}
use Rattle.wire.specs.Header.{header_code}
use Rattle.trials.specs.Boards.{Asked, judged, replied, replies}
use Rattle.trials.specs.Samples.{Reading, Run, fusings, outcome_by, queries, runs, samples, plans}
use Rattle.trials.specs.Trials.{finding, stated, trials}

-- THE MARKED TRIALS HOLD, and the samples of fusing: by pull and by push, what readers say, what fusing gives
pub marked_trials : (map finding trials ≡ map stated trials) × (map finding fusings ≡ map stated fusings)
unfolding run stopped rounds first state marked gather best key_row query_scan header_code ended started blank read term_step leaf_step literal_tag
    path_step path_code key_fields_code keys_code kept_path slot_of same_packed advanced path_at keys_at one_source reduce_step apply_step set_step set_code
    starts_code set_at counted_sources sources_at with_first fuse_reply query_of query_term_of written_path written_reduction starts_of compute combine
marked_trials = (refl, refl)

-- operators and reductions
pub samples_hold : map (λ (p : Value × Value). p.0) samples ≡ map (λ (p : Value × Value). p.1) samples
unfolding compute combine
samples_hold = refl

-- runs by pull and by push
pub runs_hold : (map (outcome_by pull) runs ≡ map (λ (s : Run). s.outcome) runs) × (map (outcome_by push) runs ≡ map (λ (s : Run). s.outcome) runs)
unfolding run stopped rounds first state marked gather best key_row compute combine
runs_hold = (refl, refl)

-- the numbers that readers of questions and worksheets give
pub numbers_hold : (map (λ (r : Reading). query_code r.bytes) queries ≡ map (λ (r : Reading). r.number) queries)
    × (map (λ (r : Reading). plan_code r.bytes) plans ≡ map (λ (r : Reading). r.number) plans)
unfolding query_scan header_code ended started blank read term_step leaf_step literal_tag path_step path_code key_fields_code keys_code kept_path slot_of
    same_packed advanced path_at keys_at one_source reduce_step index_step literal_step set_step set_code starts_code set_at counted_sources sources_at
    with_first key_row plan_scan listed_scan listed_step listed_code listed_keys_code listed_starts_code listed_at listed_end body_scan moved entries_scan
    entry_scan expressions_scan final_scan
numbers_hold = (refl, refl)

-- boards: the numbers that judging them gives, and what they are answered
pub boards_hold : (map (λ (r : Reading). board_code r.bytes) judged ≡ map (λ (r : Reading). r.number) judged)
    × (map replied replies ≡ map (λ (a : Asked). a.reply) replies)
unfolding board_code queries_of first_code count_code query_scan header_code ended started blank read term_step leaf_step literal_tag path_step path_code
    key_fields_code keys_code kept_path slot_of same_packed advanced path_at keys_at one_source reduce_step apply_step literal_step key_row query_of
    query_term_of written_path written_reduction board_reply board_rounds graph_code counts_code edges_code edge_code edges_in sources_code run stopped
    rounds first state gather best compute combine rows_bytes
boards_hold = (refl, refl)
