pub mod CodedLaws
pub mod FeedLaws
pub mod ListLaws
pub mod PatternLaws
pub mod PunctureLaws
pub mod WordLaws
