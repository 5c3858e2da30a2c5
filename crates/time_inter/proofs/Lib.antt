pub mod NewStages
