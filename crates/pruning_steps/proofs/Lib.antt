-- Why the tables of pruning hold what their contracts say, and why the records that stay are written.
pub mod ReachingRules
pub mod NumberingRules
pub mod StayingRules
pub mod WritingRules
