-- How the start of a list is counted or kept, that a line may be cut anywhere, what a turn and a step leave, that a
-- good bank is set up, how a run ends and is told; and of the promises of `run` and `result_line` what is unique and
-- what they rule out.
mod Cuts
mod Turning
mod Stepping
mod SetUp
mod Ending
mod Unique
mod Refuted
